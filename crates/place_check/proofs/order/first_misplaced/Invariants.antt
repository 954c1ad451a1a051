use Rattle.std.proofs.Common.{◌≡◌, map, drop}
use Rattle.elastic_ast.specs.Units.SeenUnits.{seen_unit}
use Rattle.place_check.specs.KnownOrders.{AreKnown}
use Rattle.place_check.specs.Misplaced.{first_against}
use Rattle.place_check.proofs.order.first_misplaced.Given as goal

abbrev pub invariant-loop-i : goal.invariant-loop-i
invariant-loop-i l = record {
  found : first_against (map seen_unit l.units) (drop l.i l.placement) ≡ first_against (map seen_unit l.units) l.placement;
  kept : AreKnown (map seen_unit l.units) l.kept;
}
