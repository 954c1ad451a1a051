use Rattle.std.proofs.Common.{◌≡◌, ◌≤◌, ◌+◌, ◌*◌, map}
use Rattle.std.specs.Prelude.{sum_by}
use Rattle.elastic_ast.specs.Units.Instances.{nth_size}
use Rattle.elastic_ast.specs.Units.SeenUnits.{seen_unit}
use Rattle.unroll_bound.specs.BoundAnswers.{most_bound}
use Rattle.unroll_bound.specs.Counts.{looped_below, loop_row_count}
use Rattle.unroll_bound.proofs.counting.loop_counts.Given as goal

abbrev pub invariant-loop-symbol : goal.invariant-loop-symbol
invariant-loop-symbol l = record {
  indices : l.indices ≡ sum_by (nth_size l.bounds) (looped_below (map seen_unit l.units.list) l.symbol);
  rows : l.rows ≡ sum_by (loop_row_count (nth_size l.bounds)) (looped_below (map seen_unit l.units.list) l.symbol);
  indices_small : l.indices ≤ l.symbol * most_bound;
  rows_small : l.rows ≤ l.symbol * (most_bound + 2);
}
