use Rattle.std.proofs.Common.{rules}
use mir.Val.{to_z}
use mir.Syntax.{w128}
use Rattle.size_terms.proofs.WorthLaws.{sums_step}
use Rattle.size_terms.proofs.worth.dot_of.Goals as goal

pub loop-i-preserved : goal.loop-i-preserved
loop-i-preserved c = sums_step c.args.by.now c.args.sizes.now c.loop-i.i (to_z w128 c.loop-i.sum-bits) c.product-sum.result c.loop-i-test.true c.requires.dense c.requires.small (search rules) c.product-sum.ensures c.loop-i.invariant
