use Rattle.std.proofs.Common.{◌≡◌, ◌++◌}
use Rattle.place_check.specs.Walking.{one_turn}
use Rattle.place_check.proofs.instances.list_turn.Given as goal

abbrev pub invariant-loop-step : goal.invariant-loop-step
invariant-loop-step l = l.list ≡ l.initial.list ++ one_turn l.first l.step l.index
