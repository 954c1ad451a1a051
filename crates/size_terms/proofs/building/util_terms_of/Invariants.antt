use Rattle.std.proofs.Common.{◌≡◌, drop}
use Rattle.elastic_ast.specs.Seen.{seen_decls}
use Rattle.elastic_ast.specs.Typing.Scope.{found}
use Rattle.elastic_ast.specs.Sizes.SizeSums.{utility_of}
use Rattle.size_terms.proofs.building.util_terms_of.Given as goal

abbrev pub invariant-loop-decl : goal.invariant-loop-decl
invariant-loop-decl l = found utility_of (seen_decls (drop l.decl-index l.decls)) ≡ found utility_of (seen_decls l.decls)
