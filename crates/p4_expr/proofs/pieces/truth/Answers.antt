use Rattle.spelling.proofs.Bounds.{refused_deep}
use Rattle.spelling.proofs.Only.{not_there}
use Rattle.spelling.proofs.Refusals.{refused_reads}
use Rattle.p4_expr.proofs.PieceSpelling.{same_false, same_true, truth_stands}
use Rattle.p4_expr.proofs.pieces.truth.Goals as goal

pub returns-then-is_at_reserved : goal.returns-then-is_at_reserved
returns-then-is_at_reserved c = record { taken = c.in_ok-reserved.ensures.taken; only = λ which rest m. same_true which m c.in_ok-reserved.ensures.taken; shallow = tt }

pub returns-in_err-reserved-2 : goal.returns-in_err-reserved-2
returns-in_err-reserved-2 c =
    refused_reads _ c.from_residual-in_err-reserved-2.ensures.1
    (λ which rest m. truth_stands which _ _ m (not_there c.if-is_at_reserved.ensures.1) c.in_err-reserved-2.ensures.refused)
    (refused_deep _ _ _ _ c.in_err-reserved-2.ensures.refused)

pub returns : goal.returns
returns c = record { taken = c.in_ok-reserved-2.ensures.taken; only = λ which rest m. same_false which m c.in_ok-reserved-2.ensures.taken; shallow = tt }
