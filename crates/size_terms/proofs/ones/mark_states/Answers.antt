use Rattle.std.proofs.Common.{refl}
use Rattle.elastic_ast.specs.Seen.{seen_state}
use Rattle.elastic_ast.specs.Sizes.Counted.{counted_in_state}
use Rattle.size_terms.specs.Ones.{counted_in_states}
use Rattle.size_terms.proofs.OneLaws.{marks_on}
use Rattle.size_terms.proofs.ones.mark_states.Goals as goal

pub loop-state-preserved : goal.loop-state-preserved
loop-state-preserved c =
    marks_on c.args.places.now counted_in_states (counted_in_state (seen_state c.state-item.result)) c.args.states.now c.loop-state.state-index c.state-item.result c.loop-state.marks c.mark_next.new.marks _ refl c.loop-state-test.true c.state-item.is c.mark_next.ensures
    c.loop-state.invariant
