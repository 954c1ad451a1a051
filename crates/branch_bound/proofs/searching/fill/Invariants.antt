use Rattle.std.proofs.Common.{length, IfSome}
use Rattle.branch_bound.specs.Lines.{IsBestKnown}
use Rattle.branch_bound.specs.States.{AreStates}
use Rattle.branch_bound.specs.Trail.{open_places, AreStepsOf}
use Rattle.branch_bound.proofs.FollowsLaws.{Keeps, work_left}
use Rattle.branch_bound.proofs.searching.fill.Given as goal

abbrev pub invariant-places : goal.invariant-places
invariant-places l = record {
  keeps : Keeps l.ip l.known l.limit (open_places l.here l.waiting) l.lines l.splits;
  best_known : IsBestKnown l.ip l.best l.known;
  steps : AreStepsOf (length l.ip.tops) l.waiting;
  states : IfSome l.here (λ p. AreStates l.ip p.within l.states);
}

abbrev pub decreases-places : goal.decreases-places
decreases-places l = work_left l.limit l.splits (open_places l.here l.waiting)
