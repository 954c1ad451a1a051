use Rattle.std.proofs.Common.{◌+◌, drop, refl}
use Rattle.elastic_ast.specs.OperatorSorts.{operators_in}
use Rattle.elastic_ast.specs.Seen.{seen_expr, seen_exprs}
use Rattle.elastic_ast.specs.Units.Costs.{exprs_ops}
use Rattle.unit_parts.proofs.CappedLaws.{all_ops, count_on, count_all}
use Rattle.unit_parts.proofs.operators.operators_of_all.Goals as goal

pub loop-expr-preserved : goal.loop-expr-preserved
loop-expr-preserved c =
    count_on (λ xs. exprs_ops (seen_exprs xs)) (operators_in (seen_expr c.expr-item.result)) c.args.exprs.now c.loop-expr.expr-index c.expr-item.result c.loop-expr.sum c.operators.result c.capped_sum-sum.result _ (all_ops (seen_expr c.expr-item.result) (seen_exprs (drop (c.loop-expr.expr-index + 1) c.args.exprs.now))) c.loop-expr-test.true
    c.expr-item.is c.operators.ensures c.capped_sum-sum.ensures c.loop-expr.invariant

pub returns : goal.returns
returns c = count_all (λ xs. exprs_ops (seen_exprs xs)) c.args.exprs.now c.loop-expr.expr-index c.loop-expr.sum _ refl c.loop-expr-test.false c.loop-expr.invariant
