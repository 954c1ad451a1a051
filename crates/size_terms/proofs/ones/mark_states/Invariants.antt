use Rattle.std.proofs.Common.{drop}
use Rattle.size_terms.specs.Ones.{marked, counted_in_states}
use Rattle.size_terms.proofs.OneLaws.{Marking}
use Rattle.size_terms.proofs.ones.mark_states.Given as goal

abbrev pub invariant-loop-state : goal.invariant-loop-state
invariant-loop-state l = Marking l.places l.marks (counted_in_states (drop l.state-index l.states)) (marked l.places l.initial.marks (counted_in_states l.states))
