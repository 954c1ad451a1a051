use Rattle.std.proofs.Common.{◌≡◌, ◌+◌, ◌-◌, ◌^◌, min, drop, unsigned_abs}
use Rattle.int_program.specs.Limits.{weight}
use Rattle.int_program.proofs.limits.is_light.Given as goal

abbrev pub invariant-loop-part : goal.invariant-loop-part
invariant-loop-part l =
    min (l.sum + weight (drop l.part-index l.parts) l.tops) (2 ^ 128 - 1) ≡ min (weight l.parts l.tops + unsigned_abs l.beside) (2 ^ 128 - 1)
