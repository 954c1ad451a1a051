use Rattle.elastic_ast.proofs.Containers.PlaceLaws.{place_tells}
use Rattle.elastic_laws.proofs.vector_laws.law_of_places.Goals as goal

pub returns : goal.returns
returns c = place_tells
