use Rattle.std.proofs.Common.{refl}
use Rattle.elastic_ast.specs.Seen.{seen_stmt, seen_stmts}
use Rattle.elastic_ast.specs.Units.Reach.{plain_reads, body_reads}
use Rattle.unit_parts.proofs.GatheredLaws.{gather_on}
use Rattle.unit_parts.proofs.reads.add_body.Goals as goal

pub loop-stmt-preserved : goal.loop-stmt-preserved
loop-stmt-preserved c =
    gather_on (λ xs. body_reads (seen_stmts xs)) (plain_reads (seen_stmt c.stmt-item.result)) c.args.body.now c.loop-stmt.stmt-index c.stmt-item.result c.loop-stmt.reads c.add_plain.new.reads _ refl c.loop-stmt-test.true
    c.stmt-item.is c.in_ok-add_plain.ensures c.loop-stmt.invariant
