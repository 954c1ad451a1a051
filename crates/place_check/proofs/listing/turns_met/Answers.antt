use Rattle.place_check.specs.Walking.{one_turn}
use Rattle.place_check.proofs.GroupLaws.{turns_stop}
use Rattle.place_check.proofs.listing.turns_met.Goals as goal

pub returns-in-Err : goal.returns-in-Err
returns-in-Err c =
    turns_stop c.args.placement.now c.args.place c.loop-index.next c.in-Err.place (one_turn c.args.first c.args.count) c.loop-index.index c.args.turns c.loop-index-test.true c.loop-index.invariant c.in-Err.ensures
