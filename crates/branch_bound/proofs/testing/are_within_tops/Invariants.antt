use Rattle.std.proofs.Common.{ℕ, ◌<◌, pos, ◌≤ℤ◌}
use Rattle.int_program.specs.Sums.{at}
use Rattle.branch_bound.proofs.testing.are_within_tops.Given as goal

abbrev pub invariant-values : goal.invariant-values
invariant-values l = (k : ℕ) → k < l.i → (pos 0 ≤ℤ at l.values k) × (at l.values k ≤ℤ at l.tops k)
