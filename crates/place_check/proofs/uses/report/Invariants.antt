use Rattle.std.proofs.Common.{◌≡◌, [], ◌∷◌, map}
use Rattle.elastic_ast.specs.Units.Instances.{nth_size, each_turn}
use Rattle.elastic_ast.specs.Units.SeenUnits.{seen_unit}
use Rattle.place_check.specs.Standing.{standing}
use Rattle.place_check.specs.UseTables.{stage_use}
use Rattle.place_check.proofs.uses.report.Given as goal

abbrev pub invariant-loop-stage : goal.invariant-loop-stage
invariant-loop-stage l = l.stages ≡ each_turn l.stage (λ stage. stage_use (nth_size l.sizes) (standing (map seen_unit l.units.list) l.placement.at) stage ∷ [])
