use Rattle.spelling.proofs.Bounds.{refused_deep}
use Rattle.spelling.proofs.ByParts.{refused_made}
use Rattle.spelling.proofs.Limits.{want_or}
use Rattle.spelling.proofs.Only.{begins, of_where, stands}
use Rattle.p4_declarations.proofs.reading.include.Goals as goal

pub returns-in_err-file : goal.returns-in_err-file
returns-in_err-file c = λ depth.
    refused_made _ c.from_residual.ensures.1 (λ more file rest m. want_or _ _ (stands _ _ c.in_err-file.ensures.refused (file, begins (of_where m)))) (refused_deep _ _ _ _ c.in_err-file.ensures.refused)
