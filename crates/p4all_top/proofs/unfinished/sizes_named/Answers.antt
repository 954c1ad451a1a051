use Rattle.std.proofs.Common.{arith, ◌∙◌}
use Rattle.p4all_top.proofs.LineLaws.{named_step, named_all}
use Rattle.p4all_top.proofs.unfinished.sizes_named.Goals as goal

pub loop-i-preserved : goal.loop-i-preserved
loop-i-preserved c =
    named_step c.push.new.self c.loop-i.named c.args.symbols.now c.args.sizes.now c.loop-i.i c.index-symbols-i.result c.in_ok-name.name _ c.loop-i-test.true (omega (arith, c.loop-i-test.true, c.requires))
    c.index-symbols-i.is (c.in_ok-name.ensures ∙ c.as_slice.ensures) c.in_ok-push.ensures.ok c.loop-i.invariant

pub returns : goal.returns
returns c = named_all c.loop-i.named c.args.symbols.now c.args.sizes.now c.loop-i.i _ (omega (arith, c.loop-i-test.false)) c.loop-i.invariant
