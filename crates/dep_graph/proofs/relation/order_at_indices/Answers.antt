use Rattle.dep_graph.proofs.IndexLaws.{indices}
use Rattle.dep_graph.proofs.relation.order_at_indices.Goals as goal

pub returns : goal.returns
returns c = indices
