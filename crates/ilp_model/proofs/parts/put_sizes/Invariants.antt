use Rattle.std.proofs.Common.{◌≡◌, ◌++◌, drop}
use Rattle.ilp_model.specs.Written.{written_sizes}
use Rattle.ilp_model.proofs.parts.put_sizes.Given as goal

abbrev pub invariant-loop-symbol : goal.invariant-loop-symbol
invariant-loop-symbol l = l.parts ++ written_sizes l.symbol (drop l.symbol l.by) ≡ l.initial.parts ++ written_sizes 0 l.by
