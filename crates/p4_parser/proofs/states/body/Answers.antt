use Rattle.p4_parser.specs.Reading.{BodyHasFew, seen_body}
use Rattle.p4_parser.specs.Declarations.{SpellsStateBody}
use Rattle.p4_statements.proofs.FewReading.{passes_opens}
use Rattle.std.proofs.Common.{arith, codes, refl, rules}
use Rattle.spelling.proofs.ByParts.{around_few, few_up}
use Rattle.p4_parser.proofs.states.body.Goals as goal

pub returns : goal.returns
returns c = around_few {Of = SpellsStateBody} {seen = seen_body} {Few = BodyHasFew} refl (passes_opens (codes "{") c.args.depth 0 1 refl (omega arith)) (λ inner old new r call. few_up (search rules)) c.around.ensures
