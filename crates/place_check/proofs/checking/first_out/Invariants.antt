use Rattle.std.proofs.Common.{◌≡◌, drop}
use Rattle.std.specs.Prelude.{nat_le}
use Rattle.std.specs.List.{find}
use Rattle.place_check.proofs.checking.first_out.Given as goal

abbrev pub invariant-loop-at : goal.invariant-loop-at
invariant-loop-at l = find (λ at. nat_le l.stages at.stage) (drop l.at-index l.placement) ≡ find (λ at. nat_le l.stages at.stage) l.placement
