-- Sums over the numbers below one.
use Rattle.std.proofs.Common.{ℕ}
use Rattle.unroll_bound.specs.Counts.{numbers_below}
pub use Rattle.unroll_bound.proofs.Totals.{total, sum_is_total}

abbrev pub sum_to : (ℕ → ℕ) → ℕ → ℕ
sum_to f n = total f (numbers_below n)
