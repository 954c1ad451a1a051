use Rattle.std.proofs.Common.{◌≡◌, drop}
use Rattle.decl_check.specs.StateRules.{states_break}
use Rattle.decl_check.proofs.states.check_states.Given as goal

abbrev pub invariant-loop-state : goal.invariant-loop-state
invariant-loop-state l = states_break l.allow_reserved l.scope l.states (drop l.state-index l.each) ≡ states_break l.allow_reserved l.scope l.states l.each
