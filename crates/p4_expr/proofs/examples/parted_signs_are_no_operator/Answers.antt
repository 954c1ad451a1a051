use Rattle.p4_expr.proofs.PartedSigns.{not_operator}
use Rattle.p4_expr.proofs.examples.parted_signs_are_no_operator.Goals as goal

pub returns : goal.returns
returns c = not_operator
