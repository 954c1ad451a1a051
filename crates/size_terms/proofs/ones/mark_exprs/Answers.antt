use Rattle.std.proofs.Common.{refl}
use Rattle.elastic_ast.specs.Seen.{seen_expr}
use Rattle.elastic_ast.specs.Sizes.Counted.{counted_in_expr}
use Rattle.size_terms.specs.Ones.{counted_in_exprs}
use Rattle.size_terms.proofs.OneLaws.{marks_on}
use Rattle.size_terms.proofs.ones.mark_exprs.Goals as goal

pub loop-expr-preserved : goal.loop-expr-preserved
loop-expr-preserved c =
    marks_on c.args.places.now counted_in_exprs (counted_in_expr (seen_expr c.expr-item.result)) c.args.exprs.now c.loop-expr.expr-index c.expr-item.result c.loop-expr.marks c.mark_expr.new.marks _ refl c.loop-expr-test.true c.expr-item.is c.mark_expr.ensures
    c.loop-expr.invariant
