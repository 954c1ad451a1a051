use Rattle.spelling.proofs.ByParts.{around}
use Rattle.spelling.proofs.WordsUpTo.{words_within_up_to}
use Rattle.std.proofs.Common.{refl, rules}
use Rattle.p4_parser.specs.Declarations.{SpellsParamList}
use Rattle.p4_parser.proofs.actions.params.Goals as goal

pub returns : goal.returns
returns c = around {Of = λ _. SpellsParamList} refl (λ inner old new r call. words_within_up_to (search rules)) c.around.ensures
