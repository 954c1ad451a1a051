use Rattle.std.proofs.Common.{◌≡◌, ◌+ℤ◌, drop}
use Rattle.std.specs.Int.{int_wrap, w128}
use Rattle.int_program.specs.Sums.{sum_at}
use Rattle.branch_bound.proofs.states.lows_sum.Given as goal

abbrev pub invariant-loop-part : goal.invariant-loop-part
invariant-loop-part l = int_wrap w128 (l.worth +ℤ sum_at (drop l.part-index l.parts) l.low) ≡ int_wrap w128 (sum_at l.parts l.low)
