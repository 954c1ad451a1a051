use Rattle.std.proofs.Common.{refl, rules}
use Rattle.spelling.proofs.ByParts.{around_words}
use Rattle.p4_declarations.proofs.packets.header_in_brackets.Goals as goal

pub returns : goal.returns
returns c = around_words refl (λ inner old new r call. search rules) c.around.ensures
