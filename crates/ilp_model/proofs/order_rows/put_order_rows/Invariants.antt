use Rattle.std.proofs.Common.{◌≡◌, ◌++◌, drop, map}
use Rattle.elastic_ast.specs.Units.SeenUnits.{seen_unit}
use Rattle.place_check.specs.KnownOrders.{AreKnown}
use Rattle.ilp_model.specs.WrittenGroups.{with_places, written_each_later, written_all_orders}
use Rattle.ilp_model.proofs.order_rows.put_order_rows.Given as goal

abbrev pub invariant-loop-place : goal.invariant-loop-place
invariant-loop-place l = record {
  rows : l.rows ++ written_each_later (map seen_unit l.units) l.numbers (with_places l.place (drop l.place l.list)) ≡ l.initial.rows ++ written_all_orders (map seen_unit l.units) l.numbers l.list;
  kept : AreKnown (map seen_unit l.units) l.kept;
}
