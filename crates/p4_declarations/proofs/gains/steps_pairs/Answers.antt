use Rattle.std.proofs.Common.{refl, rules}
use Rattle.spelling.specs.Readers.{ClosesNext}
use Rattle.spelling.proofs.ByParts.{around}
use Rattle.spelling.proofs.InLines.{before_up_to}
use Rattle.p4_declarations.proofs.gains.steps_pairs.Goals as goal

pub returns : goal.returns
returns c = around refl (λ inner old new r call. before_up_to {Follows = ClosesNext} (λ ws at. at) (search rules)) c.around.ensures
