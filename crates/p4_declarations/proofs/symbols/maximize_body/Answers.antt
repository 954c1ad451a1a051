use Rattle.std.proofs.Common.{codes, refl, rules}
use Rattle.spelling.specs.Reading.{Ends}
use Rattle.p4_declarations.specs.GoesOn.{sum_signs}
use Rattle.spelling.proofs.ByParts.{around}
use Rattle.spelling.proofs.InLines.{within_before_up_to}
use Rattle.spelling.proofs.Only.{ends_sign}
use Rattle.p4_declarations.proofs.symbols.maximize_body.Goals as goal

pub returns : goal.returns
returns c =
    around refl (λ inner old new r call. within_before_up_to {Follows = Ends sum_signs} (λ ws at. ends_sign sum_signs (codes ")") ws refl at) (search rules)) c.around.ensures
