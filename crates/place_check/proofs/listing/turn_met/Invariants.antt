use Rattle.std.specs.Prelude.{Ok}
use Rattle.place_check.specs.Walking.{one_turn, Walks}
use Rattle.place_check.proofs.listing.turn_met.Given as goal

abbrev pub invariant-loop-step : goal.invariant-loop-step
invariant-loop-step l = Walks l.placement l.place (one_turn l.first l.step l.index) (Ok l.next)
