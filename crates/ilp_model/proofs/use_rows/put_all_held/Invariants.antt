use Rattle.std.proofs.Common.{◌≡◌, ◌++◌, drop, map}
use Rattle.std.specs.Prelude.{flat_map}
use Rattle.elastic_ast.specs.Units.SeenUnits.{seen_unit}
use Rattle.ilp_model.specs.WrittenGroups.{written_held_of}
use Rattle.ilp_model.proofs.use_rows.put_all_held.Given as goal

abbrev pub invariant-loop-place : goal.invariant-loop-place
invariant-loop-place l = l.parts ++ flat_map (written_held_of (map seen_unit l.units) l.numbers l.stage) (drop l.place l.list) ≡ l.initial.parts ++ flat_map (written_held_of (map seen_unit l.units) l.numbers l.stage) l.list
