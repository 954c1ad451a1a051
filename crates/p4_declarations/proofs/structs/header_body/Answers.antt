use Rattle.std.proofs.Common.{refl, rules}
use Rattle.spelling.proofs.ByParts.{around}
use Rattle.spelling.proofs.WordsUpTo.{words_within_up_to}
use Rattle.p4_declarations.proofs.structs.header_body.Goals as goal

pub returns : goal.returns
returns c = around refl (λ inner old new r call. words_within_up_to (search rules)) c.around.ensures
