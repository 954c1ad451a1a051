use Rattle.elastic_laws.proofs.Packets.ParserEndLaws.{ends_in_time}
use Rattle.elastic_laws.proofs.packet_laws.law_of_parser_ends.Goals as goal

pub returns : goal.returns
returns c = ends_in_time
