use Rattle.std.proofs.Common.{◌≡◌, map}
use Rattle.unroll_bound.specs.Counts.{numbers_below}
use Rattle.stage_layout.specs.Reading.{value_of_number}
use Rattle.stage_layout.proofs.layout.sizes_at.Given as goal

abbrev pub invariant-loop-symbol : goal.invariant-loop-symbol
invariant-loop-symbol l = l.values ≡ map (value_of_number l.point) (numbers_below l.symbol)
