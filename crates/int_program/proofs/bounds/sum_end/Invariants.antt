use Rattle.std.proofs.Common.{◌≡◌, ◌+◌, ◌≤◌, drop, ◌+ℤ◌, unsigned_abs}
use Rattle.int_program.specs.Bounds.{sum_end}
use Rattle.int_program.specs.Limits.{weight}
use Rattle.int_program.proofs.bounds.sum_end.Given as goal

abbrev pub invariant-loop-part : goal.invariant-loop-part
invariant-loop-part l =
    (l.sum +ℤ sum_end l.end (drop l.part-index l.parts) l.within ≡ sum_end l.end l.parts l.within) × (unsigned_abs l.sum + weight (drop l.part-index l.parts) l.within.high ≤ weight l.parts l.within.high)
