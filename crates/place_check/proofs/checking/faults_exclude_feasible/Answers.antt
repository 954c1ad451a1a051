use Rattle.place_check.proofs.ExclusionLaws.{excluded}
use Rattle.place_check.proofs.checking.faults_exclude_feasible.Goals as goal

pub returns : goal.returns
returns c = excluded
