use Rattle.std.proofs.Common.{drop}
use Rattle.size_terms.specs.Ones.{marked, counted_in_exprs}
use Rattle.size_terms.proofs.OneLaws.{Marking}
use Rattle.size_terms.proofs.ones.mark_exprs.Given as goal

abbrev pub invariant-loop-expr : goal.invariant-loop-expr
invariant-loop-expr l = Marking l.places l.marks (counted_in_exprs (drop l.expr-index l.exprs)) (marked l.places l.initial.marks (counted_in_exprs l.exprs))
