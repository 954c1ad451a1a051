use Rattle.std.proofs.Common.{◌≡◌, ◌++◌, drop, map}
use Rattle.std.specs.Prelude.{flat_map}
use Rattle.elastic_ast.specs.Units.SeenUnits.{seen_unit}
use Rattle.ilp_model.specs.WrittenGroups.{with_places, written_taken}
use Rattle.ilp_model.proofs.use_rows.put_all_taken.Given as goal

abbrev pub invariant-loop-place : goal.invariant-loop-place
invariant-loop-place l = l.parts ++ flat_map (written_taken (map seen_unit l.units) l.numbers l.kind l.stage) (with_places l.place (drop l.place l.list)) ≡ l.initial.parts ++ flat_map (written_taken (map seen_unit l.units) l.numbers l.kind l.stage) (with_places 0 l.list)
