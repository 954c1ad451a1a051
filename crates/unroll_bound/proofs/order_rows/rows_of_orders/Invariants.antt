use Rattle.std.proofs.Common.{◌≡◌, ◌≤◌, ◌-◌, ◌*◌, drop, map, length}
use Rattle.elastic_ast.specs.Units.SeenUnits.{seen_unit}
use Rattle.place_check.specs.KnownOrders.{AreKnown}
use Rattle.unroll_bound.specs.BoundAnswers.{most_at_bounds}
use Rattle.unroll_bound.specs.OrderRows.{most_of_pair, rows_of_pairs}
use Rattle.unroll_bound.proofs.order_rows.rows_of_orders.Given as goal

abbrev pub invariant-loop-i : goal.invariant-loop-i
invariant-loop-i l = record {
  rows : l.count ≡ rows_of_pairs l.stages (map seen_unit l.units) (drop l.i l.list);
  small : l.count ≤ (length l.list - l.i) * (most_at_bounds * most_of_pair);
  kept : AreKnown (map seen_unit l.units) l.kept;
}
