use Rattle.std.proofs.Common.{ℕ, ◌<◌, ◌≤ℤ◌, get_or}
use Rattle.int_program.specs.Sums.{sum_at}
use Rattle.int_program.specs.declared.program.Row.{Row}
use Rattle.branch_bound.proofs.testing.lows_hold.Given as goal

abbrev pub invariant-rows : goal.invariant-rows
invariant-rows l = (k : ℕ) → k < l.i → (d : Row) → sum_at (get_or l.ip.rows k d).parts l.within.low ≤ℤ (get_or l.ip.rows k d).most
