use Rattle.std.proofs.Common.{◌≡◌, ◌++◌, map}
use Rattle.elastic_ast.specs.Units.Instances.{each_turn}
use Rattle.elastic_ast.specs.Units.SeenUnits.{seen_unit}
use Rattle.ilp_model.specs.WrittenGroups.{written_uses}
use Rattle.ilp_model.proofs.use_rows.put_use_rows.Given as goal

abbrev pub invariant-loop-stage : goal.invariant-loop-stage
invariant-loop-stage l = l.rows ≡ l.initial.rows ++ each_turn l.stage (written_uses (map seen_unit l.units) l.target l.numbers l.list)
