use Rattle.std.proofs.Common.{◌≡◌, ◌++◌}
use Rattle.elastic_ast.specs.Units.Instances.{each_turn}
use Rattle.place_check.specs.Walking.{one_turn}
use Rattle.place_check.proofs.instances.list_turns.Given as goal

abbrev pub invariant-loop-index : goal.invariant-loop-index
invariant-loop-index l = l.list ≡ l.initial.list ++ each_turn l.index (one_turn l.first l.count)
