use Rattle.std.proofs.Common.{◌≡◌, take}
use Rattle.unroll_bound.proofs.finding.narrowed.Given as goal

abbrev pub invariant-loop-symbol : goal.invariant-loop-symbol
invariant-loop-symbol l = l.list ≡ take l.symbol l.bounds
