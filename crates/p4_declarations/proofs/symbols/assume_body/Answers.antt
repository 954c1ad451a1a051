use Rattle.std.proofs.Common.{codes, refl, rules}
use Rattle.spelling.specs.Reading.{Ends}
use Rattle.p4_declarations.specs.GoesOn.{comparison_signs}
use Rattle.spelling.proofs.ByParts.{around}
use Rattle.spelling.proofs.InLines.{before_up_to}
use Rattle.spelling.proofs.Only.{ends_sign}
use Rattle.p4_declarations.proofs.symbols.assume_body.Goals as goal

pub returns : goal.returns
returns c =
    around refl (λ inner old new r call. before_up_to {Follows = Ends comparison_signs} (λ ws at. ends_sign comparison_signs (codes ")") ws refl at) (search rules)) c.around.ensures
