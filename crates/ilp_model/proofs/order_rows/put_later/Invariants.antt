use Rattle.std.proofs.Common.{◌≡◌, ◌++◌, ◌+◌, drop, map}
use Rattle.elastic_ast.specs.Units.SeenUnits.{seen_unit}
use Rattle.place_check.specs.KnownOrders.{AreKnown}
use Rattle.ilp_model.specs.WrittenGroups.{with_places, written_later}
use Rattle.ilp_model.proofs.order_rows.put_later.Given as goal

abbrev pub invariant-loop-later : goal.invariant-loop-later
invariant-loop-later l = record {
  rows : l.rows ++ written_later (map seen_unit l.units) l.numbers (l.place, l.first) (with_places l.later (drop l.later l.list)) ≡ l.initial.rows ++ written_later (map seen_unit l.units) l.numbers (l.place, l.first) (with_places (l.place + 1) (drop (l.place + 1) l.list));
  kept : AreKnown (map seen_unit l.units) l.kept;
}
