use Rattle.elastic_laws.proofs.Packets.TakenLaws.{taken_has_locations}
use Rattle.elastic_laws.proofs.packet_laws.law_of_taken_locations.Goals as goal

pub returns : goal.returns
returns c = taken_has_locations
