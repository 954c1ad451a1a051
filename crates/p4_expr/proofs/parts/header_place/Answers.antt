use Rattle.spelling.proofs.Bounds.{never_deep}
use Rattle.spelling.proofs.Limits.{want_or}
use Rattle.spelling.proofs.Only.{wants}
use Rattle.spelling.proofs.Taking.{takes_both}
use Rattle.std.proofs.Common.{rules}
use Rattle.p4_expr.proofs.IndexEnds.{read_exactly, refused_to_index}
use Rattle.p4_expr.proofs.parts.header_place.Goals as goal

pub returns-in_err-header : goal.returns-in_err-header
returns-in_err-header c = λ depth.
    refused_to_index _ c.from_residual.ensures.1 (λ more of rest m ends. want_or _ _ (wants m (λ b f s. c.in_err-header.ensures.only of.0 b f))) (never_deep _ _ c.in_err-header.ensures.shallow)

pub returns : goal.returns
returns c = λ depth. read_exactly _ (takes_both c.in_ok-header.ensures.taken (takes_both c.in_ok-sign.ensures.taken c.in_ok-field.ensures.taken)) (search rules)
