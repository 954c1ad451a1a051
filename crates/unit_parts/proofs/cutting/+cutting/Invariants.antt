use Rattle.std.proofs.Common.{drop}
use Rattle.elastic_ast.specs.Seen.{seen_stmts}
use Rattle.unit_parts.proofs.CutLaws.{Passes}
use Rattle.unit_parts.proofs.cutting.+cutting.Given as goal

abbrev pub invariant-cut_stmts-loop-stmt : goal.invariant-cut_stmts-loop-stmt
invariant-cut_stmts-loop-stmt l = Passes l.initial.walk l.walk l.place (seen_stmts (drop l.stmt-index l.stmts)) (seen_stmts l.stmts)
