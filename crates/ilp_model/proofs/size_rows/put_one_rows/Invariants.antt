use Rattle.std.proofs.Common.{◌≡◌, ◌++◌, drop, map}
use Rattle.ilp_model.specs.Written.{written_one}
use Rattle.ilp_model.proofs.size_rows.put_one_rows.Given as goal

abbrev pub invariant-loop-symbol : goal.invariant-loop-symbol
invariant-loop-symbol l = l.rows ++ map written_one (drop l.symbol-index l.ones) ≡ l.initial.rows ++ map written_one l.ones
