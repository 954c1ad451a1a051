use Rattle.std.proofs.Common.{◌≡◌, ℕ, ◌<◌, length, slice_get, None}
use Rattle.int_program.specs.Accepts.{tight_fault}
use Rattle.branch_bound.specs.States.{AreStates}
use Rattle.branch_bound.proofs.testing.tightening.Given as goal

abbrev pub invariant-rows : goal.invariant-rows
invariant-rows l = record {
  are : AreStates l.ip l.within l.states;
  none : (k : ℕ) → k < l.i → (v : ℕ) → tight_fault (length l.ip.tops) l.within v (slice_get l.ip.rows k) ≡ None → ⊥;
}
