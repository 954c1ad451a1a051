use Rattle.place_check.proofs.KnownLaws.{stands_listed}
use Rattle.place_check.proofs.listing.listed_instances_stand.Goals as goal

pub returns : goal.returns
returns c = stands_listed
