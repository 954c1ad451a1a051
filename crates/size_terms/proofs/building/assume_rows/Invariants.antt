use Rattle.std.proofs.Common.{◌≡◌, true, [], take, drop}
use Rattle.std.specs.List.{list_all}
use Rattle.elastic_ast.specs.Seen.{seen_decls}
use Rattle.elastic_ast.specs.Sizes.SizeSums.{comparisons}
use Rattle.size_terms.specs.Building.{AddsComps, is_short}
use Rattle.size_terms.proofs.building.assume_rows.Given as goal

abbrev pub invariant-loop-decl : goal.invariant-loop-decl
invariant-loop-decl l = record {
  adds : AddsComps l.places [] l.rows (comparisons (seen_decls (take l.decl-index l.decls)));
  short : list_all is_short (comparisons (seen_decls (drop l.decl-index l.decls))) ≡ true;
}
