use Rattle.std.proofs.Common.{arith, rules}
use Rattle.int_program.proofs.SumLaws.{no_part, others_more, weight_more, plus_fits, sum_turn}
use Rattle.int_program.proofs.tightening.least_of_others.Goals as goal

pub overflow_add-sum : goal.overflow_add-sum
overflow_add-sum c = plus_fits _ c.part_other-sum.result _ _ (search rules) (omega (arith, c.loop-part.invariant.1, weight_more c.args.parts.now c.loop-part.part-index no_part c.args.within.now.high c.loop-part-test.true)) c.part_other-sum.ensures.bound c.requires.small

pub loop-part-preserved : goal.loop-part-preserved
loop-part-preserved c = sum_turn _ c.part_other-sum.result _ _ _ _ _ _ _ (search rules) c.loop-part.invariant.0 (others_more c.args.parts.now c.loop-part.part-index no_part c.args.var c.args.within.now c.loop-part-test.true) c.part_other-sum.ensures.value (rw (weight_more c.args.parts.now c.loop-part.part-index no_part c.args.within.now.high c.loop-part-test.true) at c.loop-part.invariant.1) c.part_other-sum.ensures.bound c.requires.small
