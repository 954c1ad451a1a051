use Rattle.std.proofs.Common.{◌+◌, [], ◌∷◌}
use Rattle.place_check.proofs.GroupLaws.{turns_stop}
use Rattle.place_check.proofs.listing.turn_met.Goals as goal

pub returns-in-Err : goal.returns-in-Err
returns-in-Err c =
    turns_stop c.args.placement.now c.args.place c.loop-step.next c.in-Err.place (λ step. (c.args.first + step, c.args.index) ∷ []) c.loop-step.step c.args.count c.loop-step-test.true c.loop-step.invariant c.in-Err.ensures
