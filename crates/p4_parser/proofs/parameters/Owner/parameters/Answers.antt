use Rattle.std.proofs.Common.{refl, rules}
use Rattle.spelling.proofs.ByParts.{around_words}
use Rattle.p4_parser.specs.Declarations.{SpellsParameters}
use Rattle.p4_parser.proofs.parameters.Owner.parameters.Goals as goal

pub returns : goal.returns
returns c = around_words {Of = λ _. SpellsParameters c.args.self} refl (λ inner old new r call. search rules) c.around.ensures
