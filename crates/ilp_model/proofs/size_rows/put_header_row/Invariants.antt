use Rattle.std.proofs.Common.{◌≡◌, ◌++◌, drop, map, pos}
use Rattle.ilp_model.specs.Written.{written_sizes}
use Rattle.ilp_model.proofs.size_rows.put_header_row.Given as goal

abbrev pub invariant-loop-symbol : goal.invariant-loop-symbol
invariant-loop-symbol l = l.parts ++ written_sizes l.symbol (map pos (drop l.symbol l.each)) ≡ written_sizes 0 (map pos l.each)
