use Rattle.std.proofs.Common.{◌≡◌, ◌++◌, drop}
use Rattle.std.specs.Prelude.{flat_map}
use Rattle.elastic_ast.specs.Units.Instances.{nth_size}
use Rattle.ilp_model.specs.Written.{written_keys}
use Rattle.ilp_model.proofs.size_rows.put_key_rows.Given as goal

abbrev pub invariant-loop-key : goal.invariant-loop-key
invariant-loop-key l = l.rows ++ flat_map (written_keys l.first (nth_size l.bounds)) (drop l.key-index l.keys) ≡ l.initial.rows ++ flat_map (written_keys l.first (nth_size l.bounds)) l.keys
