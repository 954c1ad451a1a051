use Rattle.elastic_laws.proofs.Units.ExchangeLaws.{units_have_footprints, instances_have_footprints}
use Rattle.elastic_laws.proofs.unit_laws.instances_have_footprints.Goals as goal

pub returns : goal.returns
returns c = record { units = units_have_footprints; instances = instances_have_footprints }
