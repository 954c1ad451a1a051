use Rattle.std.proofs.Common.{◌≡◌, pos, map, take}
use Rattle.int_program.proofs.bounds.root.Given as goal

abbrev pub invariant-tops : goal.invariant-tops
invariant-tops l = l.low ≡ map (λ _. pos 0) (take l._top-index l.tops)
