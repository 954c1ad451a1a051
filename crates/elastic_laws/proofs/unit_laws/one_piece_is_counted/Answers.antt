use Rattle.elastic_laws.proofs.Units.PieceCountLaws.{one_is_counted}
use Rattle.elastic_laws.proofs.unit_laws.one_piece_is_counted.Goals as goal

pub returns : goal.returns
returns c = one_is_counted
