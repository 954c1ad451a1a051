use Rattle.std.proofs.Common.{refl}
use Rattle.elastic_ast.specs.Seen.{seen_decl, seen_decls}
use Rattle.elastic_ast.specs.Sizes.Counted.{counted_in_decl, counted_symbols}
use Rattle.size_terms.proofs.OneLaws.{marks_on}
use Rattle.size_terms.proofs.ones.mark_decls.Goals as goal

pub loop-decl-preserved : goal.loop-decl-preserved
loop-decl-preserved c =
    marks_on c.args.places.now (λ decls. counted_symbols (seen_decls decls)) (counted_in_decl (seen_decl c.decl-item.result)) c.args.decls.now c.loop-decl.decl-index c.decl-item.result c.loop-decl.marks c.mark_decl.new.marks _ refl c.loop-decl-test.true
    c.decl-item.is c.mark_decl.ensures c.loop-decl.invariant
