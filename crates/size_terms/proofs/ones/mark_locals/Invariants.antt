use Rattle.std.proofs.Common.{drop}
use Rattle.size_terms.specs.Ones.{marked, counted_in_locals}
use Rattle.size_terms.proofs.OneLaws.{Marking}
use Rattle.size_terms.proofs.ones.mark_locals.Given as goal

abbrev pub invariant-loop-local : goal.invariant-loop-local
invariant-loop-local l = Marking l.places l.marks (counted_in_locals (drop l.local-index l.locals)) (marked l.places l.initial.marks (counted_in_locals l.locals))
