use Rattle.p4_parser.proofs.Reaching.{passes_contents}
use Rattle.p4_parser.specs.Declarations.{SpellsContents}
use Rattle.std.proofs.Common.{refl, rules}
use Rattle.spelling.proofs.ByParts.{around_few, few_up}
use Rattle.p4_parser.specs.Reading.{ContentsHaveFew, seen_contents}
use Rattle.p4_parser.proofs.controls.contents.Goals as goal

pub returns : goal.returns
returns c = around_few {Of = SpellsContents} {seen = seen_contents} {Few = ContentsHaveFew} refl (passes_contents c.args.depth) (λ inner old new r call. few_up (search rules)) c.around.ensures
