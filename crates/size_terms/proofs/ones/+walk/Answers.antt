use Rattle.std.proofs.Common.{refl}
use Rattle.elastic_ast.specs.Seen.{seen_stmt, seen_stmts}
use Rattle.elastic_ast.specs.Sizes.Counted.{counted_in_stmt, counted_in_stmts}
use Rattle.size_terms.proofs.OneLaws.{marks_on}
use Rattle.size_terms.proofs.ones.+walk.Goals as goal

pub mark_stmts-loop-stmt-preserved : goal.mark_stmts-loop-stmt-preserved
mark_stmts-loop-stmt-preserved t c =
    marks_on c.args.places.now (λ stmts. counted_in_stmts (seen_stmts stmts)) (counted_in_stmt (seen_stmt c.stmt-item.result)) c.args.stmts.now c.loop-stmt.stmt-index c.stmt-item.result c.loop-stmt.marks c.mark_stmt.new.marks _ refl c.loop-stmt-test.true
    c.stmt-item.is c.mark_stmt.ensures c.loop-stmt.invariant
