use Rattle.std.proofs.Common.{arith}
use Rattle.int_program.proofs.SumLaws.{no_part, weight_more}
use Rattle.int_program.proofs.limits.is_light.Goals as goal

pub loop-part-preserved : goal.loop-part-preserved
loop-part-preserved c =
    let more = weight_more c.args.parts.now c.loop-part.part-index no_part c.args.tops.now c.loop-part-test.true in
    omega (arith, c.loop-part.invariant)
