use Rattle.std.proofs.Common.{refl}
use Rattle.elastic_ast.specs.Seen.{seen_local}
use Rattle.elastic_ast.specs.Sizes.Counted.{counted_in_local}
use Rattle.size_terms.specs.Ones.{counted_in_locals}
use Rattle.size_terms.proofs.OneLaws.{marks_on}
use Rattle.size_terms.proofs.ones.mark_locals.Goals as goal

pub loop-local-preserved : goal.loop-local-preserved
loop-local-preserved c =
    marks_on c.args.places.now counted_in_locals (counted_in_local (seen_local c.local-item.result)) c.args.locals.now c.loop-local.local-index c.local-item.result c.loop-local.marks c.mark_local.new.marks _ refl c.loop-local-test.true c.local-item.is c.mark_local.ensures
    c.loop-local.invariant
