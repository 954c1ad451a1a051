use Rattle.std.proofs.Common.{◌∙◌, arith}
use Rattle.size_terms.proofs.TermLaws.{worth_step, near_rest}
use Rattle.size_terms.proofs.sums.add_terms.Goals as goal

pub loop-term-preserved : goal.loop-term-preserved
loop-term-preserved c = record {
  worth = λ sizes.
      worth_step c.args.places.now c.loop-term.sum c.add_term.new.sum c.args.terms.now c.loop-term.term-index c.term-item.result c.args.minus sizes _ c.loop-term-test.true c.term-item.is (c.add_term.ensures.worth sizes)
      (c.loop-term.invariant.worth sizes);
  dense = c.add_term.ensures.dense ∙ c.loop-term.invariant.dense;
  bulky = omega (arith, c.add_term.ensures.bulky, c.loop-term.invariant.bulky);
  near = near_rest c.args.terms.now c.loop-term.term-index c.term-item.result c.loop-term-test.true c.term-item.is c.loop-term.invariant.near;
}
