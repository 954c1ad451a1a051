use Rattle.std.proofs.Common.{◌≡◌, length, take}
use Rattle.elastic_ast.specs.Seen.{seen_decls}
use Rattle.elastic_ast.specs.Sizes.SizeSums.{comparisons}
use Rattle.size_terms.proofs.building.comparison_count.Given as goal

abbrev pub invariant-loop-decl : goal.invariant-loop-decl
invariant-loop-decl l = l.count ≡ length (comparisons (seen_decls (take l.decl-index l.decls)))
