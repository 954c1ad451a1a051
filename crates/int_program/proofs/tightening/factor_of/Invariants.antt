use Rattle.std.proofs.Common.{◌≡◌, ◌+◌, ◌≤◌, drop, ◌+ℤ◌, unsigned_abs}
use Rattle.int_program.specs.Limits.{weight}
use Rattle.int_program.specs.Tightening.{factor}
use Rattle.int_program.proofs.tightening.factor_of.Given as goal

abbrev pub invariant-loop-part : goal.invariant-loop-part
invariant-loop-part l =
    (l.sum +ℤ factor (drop l.part-index l.parts) l.var ≡ factor l.parts l.var) × (unsigned_abs l.sum + weight (drop l.part-index l.parts) l.high ≤ weight l.parts l.high)
