use Rattle.std.proofs.Common.{drop}
use Rattle.elastic_ast.specs.Seen.{seen_decls}
use Rattle.elastic_ast.specs.Sizes.Counted.{counted_symbols}
use Rattle.size_terms.specs.Ones.{marked}
use Rattle.size_terms.proofs.OneLaws.{Marking}
use Rattle.size_terms.proofs.ones.mark_decls.Given as goal

abbrev pub invariant-loop-decl : goal.invariant-loop-decl
invariant-loop-decl l = Marking l.places l.marks (counted_symbols (seen_decls (drop l.decl-index l.decls))) (marked l.places l.initial.marks (counted_symbols (seen_decls l.decls)))
