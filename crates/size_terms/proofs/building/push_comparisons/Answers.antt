use Rattle.std.proofs.Common.{◌∷◌, [], take}
use Rattle.size_terms.specs.Building.{is_short}
use Rattle.size_terms.proofs.BuildLaws.{take_step, test_rest}
use Rattle.size_terms.proofs.RowLaws.{adds_both}
use Rattle.size_terms.proofs.building.push_comparisons.Goals as goal

pub loop-comp-preserved : goal.loop-comp-preserved
loop-comp-preserved c = record {
  adds = adds_both c.args.places.now c.args.rows.now c.loop-comp.rows c.push_comparison.new.rows (take c.loop-comp.comp-index c.args.comps.now) (c.comp-item.result ∷ []) _
      (take_step c.args.comps.now c.loop-comp.comp-index c.comp-item.result c.loop-comp-test.true c.comp-item.is) c.loop-comp.invariant.adds c.in_ok-push_comparison.ensures;
  short = test_rest is_short c.args.comps.now c.loop-comp.comp-index c.comp-item.result c.loop-comp-test.true c.comp-item.is c.loop-comp.invariant.short;
}
