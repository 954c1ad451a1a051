use Rattle.std.proofs.Common.{◌≡◌, ◌++◌, drop, map}
use Rattle.std.specs.Prelude.{flat_map}
use Rattle.elastic_ast.specs.Units.SeenUnits.{seen_unit}
use Rattle.ilp_model.specs.WrittenGroups.{with_places, written_stand_of, written_stands}
use Rattle.ilp_model.proofs.instance_groups.put_stand_rows.Given as goal

abbrev pub invariant-loop-place : goal.invariant-loop-place
invariant-loop-place l = l.rows ++ flat_map (written_stand_of (map seen_unit l.units) l.numbers) (with_places l.place (drop l.place l.list)) ≡ l.initial.rows ++ written_stands (map seen_unit l.units) l.numbers l.list
