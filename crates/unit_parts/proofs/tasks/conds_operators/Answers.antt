use Rattle.std.proofs.Common.{◌+◌, drop, refl}
use Rattle.elastic_ast.specs.Seen.{seen_expr}
use Rattle.elastic_ast.specs.OperatorSorts.{operators_in}
use Rattle.elastic_ast.specs.Units.Costs.{exprs_ops}
use Rattle.unit_parts.specs.SeenPieces.{seen_conds}
use Rattle.unit_parts.proofs.CappedLaws.{all_ops, count_on, count_all}
use Rattle.unit_parts.proofs.tasks.conds_operators.Goals as goal

pub loop-cond-preserved : goal.loop-cond-preserved
loop-cond-preserved c =
    count_on (λ xs. exprs_ops (seen_conds xs)) (operators_in (seen_expr c.cond-item.result.now)) c.args.conds.now c.loop-cond.cond-index c.cond-item.result c.loop-cond.sum c.operators.result c.capped_sum-sum.result _
    (all_ops (seen_expr c.cond-item.result.now) (seen_conds (drop (c.loop-cond.cond-index + 1) c.args.conds.now))) c.loop-cond-test.true c.cond-item.is c.operators.ensures c.capped_sum-sum.ensures c.loop-cond.invariant

pub returns : goal.returns
returns c = count_all (λ xs. exprs_ops (seen_conds xs)) c.args.conds.now c.loop-cond.cond-index c.loop-cond.sum _ refl c.loop-cond-test.false c.loop-cond.invariant
