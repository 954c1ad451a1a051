use Rattle.std.proofs.Common.{◌≡◌, map, drop}
use Rattle.std.specs.List.{find}
use Rattle.elastic_ast.specs.Units.SeenUnits.{seen_unit}
use Rattle.place_check.specs.KnownOrders.{AreKnown}
use Rattle.place_check.specs.Misplaced.{against}
use Rattle.place_check.proofs.order.against_one.Given as goal

abbrev pub invariant-loop-other : goal.invariant-loop-other
invariant-loop-other l = record {
  found : find (against (map seen_unit l.units) l.first) (drop l.other-index l.later) ≡ find (against (map seen_unit l.units) l.first) l.later;
  kept : AreKnown (map seen_unit l.units) l.kept;
}
