use Rattle.std.proofs.Common.{◌≡◌, drop}
use Rattle.std.specs.List.{position_from}
use Rattle.elastic_ast.specs.Tree.{Name}
use Rattle.elastic_ast.specs.Typing.Scope.{same, or_else}
use Rattle.program_names.specs.FirstNamed.{entry_value}
use Rattle.size_terms.specs.Places.{place_of}
use Rattle.size_terms.proofs.places.Places.of.Given as goal

abbrev pub invariant-loop-place : goal.invariant-loop-place
invariant-loop-place l = (name : Name) → or_else (entry_value l.table.entries name) (position_from (same name) l.place (drop l.place l.symbols)) ≡ place_of l.symbols name
