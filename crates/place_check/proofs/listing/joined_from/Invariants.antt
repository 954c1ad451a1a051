use Rattle.std.proofs.Common.{◌≡◌, ◌+◌, map, drop}
use Rattle.elastic_ast.specs.Units.SeenUnits.{seen_unit}
use Rattle.place_check.specs.Walking.{joined}
use Rattle.place_check.proofs.listing.joined_from.Given as goal

abbrev pub invariant-loop-i : goal.invariant-loop-i
invariant-loop-i l = l.i + joined l.loop_no l.size (drop l.i (map seen_unit l.units)) ≡ l.from + joined l.loop_no l.size (drop l.from (map seen_unit l.units))
