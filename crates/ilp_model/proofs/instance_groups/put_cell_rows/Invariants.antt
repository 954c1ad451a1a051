use Rattle.std.proofs.Common.{◌≡◌, ◌++◌, drop, map}
use Rattle.std.specs.Prelude.{flat_map}
use Rattle.elastic_ast.specs.Units.Instances.{nth_size}
use Rattle.elastic_ast.specs.Units.SeenUnits.{seen_unit}
use Rattle.ilp_model.specs.WrittenGroups.{with_places, written_cells_of, written_all_cells}
use Rattle.ilp_model.proofs.instance_groups.put_cell_rows.Given as goal

abbrev pub invariant-loop-place : goal.invariant-loop-place
invariant-loop-place l = l.rows ++ flat_map (written_cells_of (map seen_unit l.units) (nth_size l.bounds) l.numbers) (with_places l.place (drop l.place l.list)) ≡ l.initial.rows ++ written_all_cells (map seen_unit l.units) (nth_size l.bounds) l.numbers l.list
