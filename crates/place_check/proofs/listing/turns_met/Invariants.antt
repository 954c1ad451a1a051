use Rattle.std.specs.Prelude.{Ok}
use Rattle.elastic_ast.specs.Units.Instances.{each_turn}
use Rattle.place_check.specs.Walking.{one_turn, Walks}
use Rattle.place_check.proofs.listing.turns_met.Given as goal

abbrev pub invariant-loop-index : goal.invariant-loop-index
invariant-loop-index l = Walks l.placement l.place (each_turn l.index (one_turn l.first l.count)) (Ok l.next)
