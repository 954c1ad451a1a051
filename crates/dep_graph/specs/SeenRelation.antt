-- The order of two instances that the code answers, as the definition has it; this project's own.
use Rattle.elastic_ast.specs.Units.Order.{Relation}
use Rattle.dep_graph.specs.declared.relation.Relation.{Relation as Answer}
use Rattle.dep_graph.specs.declared.relation.Relation.TheVariants as answer

abbrev pub seen_relation : Answer → Relation
seen_relation answer.Free = Relation.Free
seen_relation answer.NotAfter = Relation.NotAfter
seen_relation answer.Before = Relation.Before
