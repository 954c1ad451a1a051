use Rattle.std.proofs.Common.{map}
use Rattle.elastic_ast.specs.Units.Instances.{nth_size}
use Rattle.elastic_ast.specs.Units.SeenUnits.{seen_unit}
use Rattle.place_check.specs.Sums.{IsSmallUse}
use Rattle.place_check.proofs.uses.stage_use.Given as goal
use Rattle.place_check.proofs.UseLaws.{StillToTake}

abbrev pub invariant-loop-at : goal.invariant-loop-at
invariant-loop-at l = record {
  used : StillToTake (nth_size l.sizes) (map seen_unit l.units) l.placement l.stage l.at-index l.used;
  small : IsSmallUse l.at-index l.used;
}
