use Rattle.std.proofs.Common.{refl}
use Rattle.elastic_ast.specs.Seen.{seen_stmt, seen_stmts}
use Rattle.elastic_ast.specs.Units.Costs.{plain_ops, body_ops}
use Rattle.unit_parts.proofs.CappedLaws.{count_on, count_all}
use Rattle.unit_parts.proofs.operators.body_operators.Goals as goal

pub loop-stmt-preserved : goal.loop-stmt-preserved
loop-stmt-preserved c =
    count_on (λ xs. body_ops (seen_stmts xs)) (plain_ops (seen_stmt c.stmt-item.result)) c.args.body.now c.loop-stmt.stmt-index c.stmt-item.result c.loop-stmt.sum c.plain_operators.result c.capped_sum-sum.result _ refl c.loop-stmt-test.true
    c.stmt-item.is c.plain_operators.ensures c.capped_sum-sum.ensures c.loop-stmt.invariant

pub returns : goal.returns
returns c = count_all (λ xs. body_ops (seen_stmts xs)) c.args.body.now c.loop-stmt.stmt-index c.loop-stmt.sum _ refl c.loop-stmt-test.false c.loop-stmt.invariant
