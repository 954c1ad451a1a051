use Rattle.std.proofs.Common.{refl}
use Rattle.elastic_ast.specs.Seen.{seen_expr, seen_exprs}
use Rattle.elastic_ast.specs.Units.Reach.{expr_reads, exprs_read}
use Rattle.unit_parts.proofs.GatheredLaws.{gather_on}
use Rattle.unit_parts.proofs.reads.add_exprs.Goals as goal

pub loop-expr-preserved : goal.loop-expr-preserved
loop-expr-preserved c =
    gather_on (λ xs. exprs_read (seen_exprs xs)) (expr_reads (seen_expr c.expr-item.result)) c.args.exprs.now c.loop-expr.expr-index c.expr-item.result c.loop-expr.reads c.add_expr.new.reads _ refl c.loop-expr-test.true
    c.expr-item.is c.in_ok-add_expr.ensures c.loop-expr.invariant
