use Rattle.ilp_model.proofs.NumberLaws.{starts_fit}
use Rattle.ilp_model.proofs.numbering.loop_starts.Goals as goal

pub past_loop-past-requires : goal.past_loop-past-requires
past_loop-past-requires c =
    starts_fit c.args.uses.now c.args.bounds.now c.loop-symbol.symbol c.loop-symbol.loops c.loop-symbol.past _ _ c.loop-symbol.invariant.starts
    c.loop-symbol-test.true c.requires.few
