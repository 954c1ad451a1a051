use Rattle.std.proofs.Common.{map}
use Rattle.elastic_ast.specs.Units.Instances.{nth_size}
use Rattle.elastic_ast.specs.Units.SeenUnits.{seen_unit}
use Rattle.place_check.specs.Standing.{standing}
use Rattle.place_check.specs.Overfull.{NoneOver}
use Rattle.place_check.proofs.overfull.first_overfull.Given as goal

abbrev pub invariant-loop-stage : goal.invariant-loop-stage
invariant-loop-stage l = NoneOver l.target (nth_size l.sizes) (standing (map seen_unit l.units) l.placement) l.stage
