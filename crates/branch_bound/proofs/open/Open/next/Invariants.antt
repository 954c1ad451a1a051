use Rattle.std.proofs.Common.{◌≡◌, length}
use Rattle.branch_bound.specs.Trail.{behind, AreStepsOf}
use Rattle.branch_bound.specs.States.{AreStates}
use Rattle.branch_bound.proofs.open.Open.next.Given as goal

abbrev pub invariant-steps : goal.invariant-steps
invariant-steps l = record {
  behind_is : behind l.within l.self ≡ behind l.initial.within l.initial.self;
  low_count : length l.within.low ≡ length l.ip.tops;
  high_count : length l.within.high ≡ length l.ip.tops;
  steps : AreStepsOf (length l.ip.tops) l.self;
  states : AreStates l.ip l.within l.states;
}

abbrev pub decreases-steps : goal.decreases-steps
decreases-steps l = length l.self
