use Rattle.std.proofs.Common.{◌≡◌, ◌≤◌, ◌-◌, ◌*◌, drop, map, length}
use Rattle.std.specs.Prelude.{sum_by}
use Rattle.elastic_ast.specs.Units.SeenUnits.{seen_unit}
use Rattle.place_check.specs.KnownOrders.{AreKnown}
use Rattle.unroll_bound.specs.OrderRows.{most_of_pair, rows_of_pair}
use Rattle.unroll_bound.proofs.order_rows.rows_with.Given as goal

abbrev pub invariant-loop-i : goal.invariant-loop-i
invariant-loop-i l = record {
  rows : l.count ≡ sum_by (rows_of_pair l.stages (map seen_unit l.units) l.first) (drop l.i l.later);
  small : l.count ≤ (length l.later - l.i) * most_of_pair;
  kept : AreKnown (map seen_unit l.units) l.kept;
}
