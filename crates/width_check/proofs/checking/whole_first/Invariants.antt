use Rattle.elastic_ast.specs.Seen.{seen_decls}
use Rattle.width_check.specs.Walked.{KeepsWhole}
use Rattle.width_check.proofs.checking.whole_first.Given as goal

abbrev pub invariant-loop-i : goal.invariant-loop-i
invariant-loop-i l = KeepsWhole (seen_decls l.decls) l.i
