use Rattle.p4_expr.specs.Expressions.{HasFewOperators, SpellsExpr}
use Rattle.p4_statements.proofs.FewReading.{expr_up_to, passes_line}
use Rattle.spelling.proofs.ByParts.{around_few}
use Rattle.elastic_ast.specs.Seen.{seen_expr}
use Rattle.std.proofs.Common.{codes, refl, rules}
use Rattle.spelling.proofs.Bounds.{in_sign}
use Rattle.p4_statements.proofs.brackets.bracketed.Goals as goal

pub returns : goal.returns
returns c =
    around_few {Of = SpellsExpr} {seen = seen_expr} {Few = HasFewOperators} refl (passes_line (codes "(") c.args.depth refl (in_sign (codes "(") refl refl refl))
    (λ inner old new r call. expr_up_to (search rules)) c.around.ensures
