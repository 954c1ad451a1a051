use Rattle.std.proofs.Common.{map}
use Rattle.elastic_ast.specs.Units.Instances.{nth_size}
use Rattle.elastic_ast.specs.Units.SeenUnits.{seen_unit}
use Rattle.place_check.proofs.UseLaws.{takes_on}
use Rattle.place_check.proofs.uses.stage_use.Goals as goal

pub loop-at-preserved : goal.loop-at-preserved
loop-at-preserved c = record {
  used = takes_on (nth_size c.args.sizes.now) (map seen_unit c.args.units.now) c.args.placement.now c.args.stage c.loop-at.at-index c.loop-at-test.true c.loop-at.used c.with_instance-used.result c.with_instance-used.ensures c.loop-at.invariant.used;
  small = c.with_instance-used.ensures.small c.loop-at.at-index c.loop-at.invariant.small;
}
