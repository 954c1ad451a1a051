use Rattle.std.proofs.Common.{refl}
use Rattle.elastic_ast.specs.Seen.{seen_expr}
use Rattle.elastic_ast.specs.Units.Reach.{expr_reads, exprs_read}
use Rattle.unit_parts.specs.SeenPieces.{seen_conds}
use Rattle.unit_parts.proofs.GatheredLaws.{gather_on}
use Rattle.unit_parts.proofs.tasks.add_conds.Goals as goal

pub loop-cond-preserved : goal.loop-cond-preserved
loop-cond-preserved c =
    gather_on (λ xs. exprs_read (seen_conds xs)) (expr_reads (seen_expr c.cond-item.result.now)) c.args.conds.now c.loop-cond.cond-index c.cond-item.result c.loop-cond.reads c.add_expr.new.reads _ refl c.loop-cond-test.true
    c.cond-item.is c.in_ok-add_expr.ensures c.loop-cond.invariant
