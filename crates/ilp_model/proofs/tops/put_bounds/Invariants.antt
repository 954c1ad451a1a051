use Rattle.std.proofs.Common.{◌≡◌, ◌++◌, drop, map, pos}
use Rattle.ilp_model.proofs.tops.put_bounds.Given as goal

abbrev pub invariant-loop-bound : goal.invariant-loop-bound
invariant-loop-bound l = l.tops ++ map pos (drop l.bound-index l.bounds) ≡ l.initial.tops ++ map pos l.bounds
