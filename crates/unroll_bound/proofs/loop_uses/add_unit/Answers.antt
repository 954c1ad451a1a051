use Rattle.std.proofs.Common.{◌+◌, arith, subst}
use Rattle.std.proofs.lemmas.List.Elements.{All-set, All-weaker}
use Rattle.unit_flow.specs.SoundUnits.{IsLoopSize}
use Rattle.unroll_bound.specs.LoopUses.{IsSmallUse}
use Rattle.unroll_bound.proofs.UseSteps.{smaller_use}
use Rattle.unroll_bound.proofs.loop_uses.add_unit.Goals as goal

pub returns-in-Some-clause-small : goal.returns-in-Some-clause-small
returns-in-Some-clause-small c = λ units h.
    All-set (IsSmallUse (units + 1)) c.args.uses.now c.in-Some.size c.with_looped.result
    (c.with_looped.ensures.small units (h c.in-Some.size _ (subst (IsLoopSize _) c.in-Some.is c.requires.size)))
    (All-weaker (IsSmallUse units) (IsSmallUse (units + 1)) (λ one k. smaller_use units (units + 1) one (omega arith) k) c.args.uses.now h)
