use Rattle.std.proofs.Common.{take}
use Rattle.unroll_bound.specs.BoundAnswers.{AreSmallBounds}
use Rattle.unroll_bound.proofs.finding.first_great.Given as goal

abbrev pub invariant-loop-symbol : goal.invariant-loop-symbol
invariant-loop-symbol l = AreSmallBounds (take l.symbol l.bounds)
