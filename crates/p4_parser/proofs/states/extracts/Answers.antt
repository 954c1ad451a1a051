use Rattle.spelling.proofs.ByParts.{up_to}
use Rattle.p4_parser.proofs.DeclarationsWithin.{extract_stays}
use Rattle.std.proofs.Common.{codes, rules}
use Rattle.p4_parser.proofs.StateSpelling.{extract_no_reserved}
use Rattle.p4_parser.proofs.states.extracts.Goals as goal

pub returns : goal.returns
returns c = up_to record { none = λ more one later a b m at. extract_no_reserved more one (codes "transition") m at } (extract_stays c.args.depth) (λ old new r call. search rules) c.until.ensures
