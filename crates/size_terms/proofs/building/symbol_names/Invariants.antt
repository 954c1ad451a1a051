use Rattle.std.proofs.Common.{◌≡◌, ◌++◌, drop}
use Rattle.elastic_ast.specs.Seen.{seen_decls}
use Rattle.elastic_ast.specs.Sizes.SizeSums.{symbols_of}
use Rattle.size_terms.proofs.building.symbol_names.Given as goal

abbrev pub invariant-loop-decl : goal.invariant-loop-decl
invariant-loop-decl l = l.names ++ symbols_of (seen_decls (drop l.decl-index l.decls)) ≡ symbols_of (seen_decls l.decls)
