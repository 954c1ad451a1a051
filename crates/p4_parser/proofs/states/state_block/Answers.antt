use Rattle.p4_parser.specs.Reading.{FewInStates, seen_states}
use Rattle.p4_statements.proofs.FewReading.{passes_opens}
use Rattle.std.proofs.Common.{arith, codes, refl, rules}
use Rattle.p4_parser.specs.Declarations.{SpellsStates}
use Rattle.spelling.proofs.ByParts.{around_few}
use Rattle.p4_parser.proofs.states.state_block.Goals as goal

pub returns : goal.returns
returns c = around_few {Of = SpellsStates} {seen = seen_states} {Few = FewInStates} refl (passes_opens (codes "{") c.args.depth 1 2 refl (omega arith)) (λ inner old new r call. search rules) c.around.ensures
