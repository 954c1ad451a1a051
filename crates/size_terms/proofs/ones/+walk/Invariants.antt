use Rattle.std.proofs.Common.{drop}
use Rattle.elastic_ast.specs.Seen.{seen_stmts}
use Rattle.elastic_ast.specs.Sizes.Counted.{counted_in_stmts}
use Rattle.size_terms.specs.Ones.{marked}
use Rattle.size_terms.proofs.OneLaws.{Marking}
use Rattle.size_terms.proofs.ones.+walk.Given as goal

abbrev pub invariant-mark_stmts-loop-stmt : goal.invariant-mark_stmts-loop-stmt
invariant-mark_stmts-loop-stmt l = Marking l.places l.marks (counted_in_stmts (seen_stmts (drop l.stmt-index l.stmts))) (marked l.places l.initial.marks (counted_in_stmts (seen_stmts l.stmts)))
