use Rattle.std.proofs.Common.{◌≡◌, ◌++◌, drop, length}
use Rattle.elastic_ast.specs.Units.Instances.{nth_size}
use Rattle.ilp_model.specs.StepKeys.{keys_from}
use Rattle.ilp_model.specs.SeenKeys.{seen_keys}
use Rattle.ilp_model.proofs.step_keys.step_keys.Given as goal

abbrev pub invariant-loop-table : goal.invariant-loop-table
invariant-loop-table l = seen_keys l.keys ++ keys_from (nth_size l.bounds) (length l.keys) (drop l.table-index l.tables) ≡ keys_from (nth_size l.bounds) 0 l.tables
