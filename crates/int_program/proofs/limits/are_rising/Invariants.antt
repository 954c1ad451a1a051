use Rattle.std.proofs.Common.{◌<◌, drop, All}
use Rattle.std.specs.Prelude.{◌↔◌}
use Rattle.int_program.specs.Limits.{IsRising}
use Rattle.int_program.proofs.LimitLaws.{AreLeft}
use Rattle.int_program.proofs.limits.are_rising.Given as goal

abbrev pub invariant-loop-part : goal.invariant-loop-part
invariant-loop-part l = AreLeft l.count l.next (drop l.part-index l.parts) ↔ (IsRising l.parts × All (λ p. p.var < l.count) l.parts)
