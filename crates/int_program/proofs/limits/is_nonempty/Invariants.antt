use Rattle.std.proofs.Common.{ℕ, pos, ◌<◌, ◌≤ℤ◌}
use Rattle.int_program.specs.Sums.{at}
use Rattle.int_program.proofs.limits.is_nonempty.Given as goal

abbrev pub invariant-loop-i : goal.invariant-loop-i
invariant-loop-i l = (k : ℕ) → k < l.i → (pos 0 ≤ℤ at l.low k) × (at l.low k ≤ℤ at l.high k)
