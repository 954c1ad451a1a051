use Rattle.elastic_laws.proofs.Units.LiveInstanceLaws.{instances_are_kept}
use Rattle.elastic_laws.proofs.unit_laws.instances_are_kept.Goals as goal

pub returns : goal.returns
returns c = instances_are_kept
