use Rattle.elastic_laws.proofs.Units.KeptMeaning.{pieces_keep_the_meaning}
use Rattle.elastic_laws.proofs.Units.InstanceRuns.{instances_keep_the_meaning}
use Rattle.elastic_laws.proofs.unit_laws.cut_keeps_the_meaning.Goals as goal

pub returns : goal.returns
returns c = record { pieces = pieces_keep_the_meaning; instances = instances_keep_the_meaning }
