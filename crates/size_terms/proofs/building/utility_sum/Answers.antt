use Rattle.std.proofs.Common.{◌∙◌, arith}
use Rattle.size_terms.specs.Building.{is_near_util}
use Rattle.size_terms.proofs.BuildLaws.{utils_step, test_rest}
use Rattle.size_terms.proofs.building.utility_sum.Goals as goal

pub loop-term-preserved : goal.loop-term-preserved
loop-term-preserved c = record {
  worth = λ sizes.
      utils_step c.args.places.now c.loop-term.sum c.add_util.new.sum c.args.terms.now c.loop-term.term-index c.term-item.result sizes _ c.loop-term-test.true c.term-item.is (c.add_util.ensures.worth sizes) (c.loop-term.invariant.worth sizes);
  dense = c.add_util.ensures.dense ∙ c.loop-term.invariant.dense;
  bulky = omega (arith, c.add_util.ensures.bulky, c.loop-term.invariant.bulky);
  near = test_rest (is_near_util c.args.places.now) c.args.terms.now c.loop-term.term-index c.term-item.result c.loop-term-test.true c.term-item.is c.loop-term.invariant.near;
}
