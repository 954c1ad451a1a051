use Rattle.spelling.proofs.Balance.{most_within}
use Rattle.p4_expr.proofs.ExprExact.{expr_exact}
use Rattle.p4_expr.proofs.ExprWithin.{expr_within}
use Rattle.p4_expr.proofs.depth_laws.law_of_open_brackets.Goals as goal

pub returns : goal.returns
returns c = record { at_most = λ depth e ws h. most_within (expr_within ws h); as_many = expr_exact }
