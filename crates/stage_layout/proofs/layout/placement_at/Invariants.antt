use Rattle.std.proofs.Common.{◌≡◌, ◌++◌, map, drop}
use Rattle.elastic_ast.specs.Units.SeenUnits.{seen_unit}
use Rattle.stage_layout.specs.Reading.{entries_from}
use Rattle.stage_layout.proofs.layout.placement_at.Given as goal

abbrev pub invariant-loop-place : goal.invariant-loop-place
invariant-loop-place l =
    l.at ++ entries_from l.point l.numbers (map seen_unit l.units) l.place (drop l.place l.list)
    ≡ entries_from l.point l.numbers (map seen_unit l.units) 0 l.list
