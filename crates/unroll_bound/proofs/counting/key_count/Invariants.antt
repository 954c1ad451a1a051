use Rattle.std.proofs.Common.{◌≡◌, ◌≤◌, ◌-◌, ◌*◌, drop, length}
use Rattle.std.specs.Prelude.{sum_by}
use Rattle.elastic_ast.specs.Units.Instances.{nth_size}
use Rattle.unroll_bound.specs.Counts.{keys_reached}
use Rattle.unroll_bound.proofs.counting.key_count.Given as goal

abbrev pub invariant-loop-i : goal.invariant-loop-i
invariant-loop-i l = record {
  keys : l.count ≡ sum_by (keys_reached (nth_size l.bounds)) (drop l.i l.tables);
  small : l.count ≤ (length l.tables - l.i) * 18446744073709551615;
}
