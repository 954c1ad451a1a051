use Rattle.p4_expr.proofs.ExprDeeper.{expr_deeper}
use Rattle.p4_expr.proofs.depth_laws.law_of_greater_depths.Goals as goal

pub returns : goal.returns
returns c = λ depth more e ws le. expr_deeper depth more e le ws
