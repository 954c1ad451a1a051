use Rattle.unroll_bound.proofs.WithinBounds.{sizes_within}
use Rattle.unroll_bound.proofs.law.sizes_are_within_bounds.Goals as goal

pub returns : goal.returns
returns c = sizes_within
