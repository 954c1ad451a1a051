use Rattle.std.proofs.Common.{◌≡◌, ◌+◌, ◌≤◌, drop, ◌+ℤ◌, unsigned_abs}
use Rattle.int_program.specs.Limits.{weight}
use Rattle.int_program.specs.Bounds.{least_of}
use Rattle.int_program.specs.Tightening.{others}
use Rattle.int_program.proofs.tightening.least_of_others.Given as goal

abbrev pub invariant-loop-part : goal.invariant-loop-part
invariant-loop-part l =
    (l.sum +ℤ least_of (others (drop l.part-index l.parts) l.var) l.within ≡ least_of (others l.parts l.var) l.within) × (unsigned_abs l.sum + weight (drop l.part-index l.parts) l.within.high ≤ weight l.parts l.within.high)
