use Rattle.std.proofs.Common.{pos, ◌≤ℤ◌, All, take}
use Rattle.int_program.proofs.limits.are_from_zero.Given as goal

abbrev pub invariant-loop-top : goal.invariant-loop-top
invariant-loop-top l = All (λ top. pos 0 ≤ℤ top) (take l.top-index l.tops)
