use Rattle.std.proofs.Common.{pos, ◌≤ℤ◌, arith, rules}
use Rattle.std.proofs.lemmas.Int.{ints}
use Rattle.std.proofs.lemmas.List.Elements.{All-more}
use Rattle.int_program.proofs.LimitLaws.{all_taken}
use Rattle.int_program.proofs.limits.are_from_zero.Goals as goal

pub loop-top-preserved : goal.loop-top-preserved
loop-top-preserved c =
    All-more (λ top. pos 0 ≤ℤ top) c.args.tops.now c.loop-top.top-index (pos 0) c.loop-top-test.true c.loop-top.invariant (omega (arith, ints, c.if-top-lt0.false))

pub returns : goal.returns
returns c =
    let all = all_taken (λ top. pos 0 ≤ℤ top) c.args.tops.now c.loop-top.top-index c.loop-top-test.false c.loop-top.invariant in
    (λ _. all, λ _. search rules)
