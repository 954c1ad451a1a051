use Rattle.std.proofs.Common.{◌≡◌, ℕ, ◌<◌, length, None}
use Rattle.int_program.specs.Sums.{at}
use Rattle.int_program.specs.Accepts.{split_fault}
use Rattle.branch_bound.proofs.deciding.first_split.Given as goal

abbrev pub invariant-variables : goal.invariant-variables
invariant-variables l = (k : ℕ) → k < l.i → split_fault (length l.ip.tops) l.within k (at l.low k) ≡ None → ⊥
