use Rattle.std.proofs.Common.{◌≡◌, ◌||◌, drop}
use Rattle.elastic_ast.specs.Tree.{Name}
use Rattle.elastic_ast.specs.Typing.Scope.{among}
use Rattle.program_names.proofs.name_places.NamePlaces.of_all.Given as goal

abbrev pub invariant-loop-name : goal.invariant-loop-name
invariant-loop-name l = (n : Name) → (among l.set n || among (drop l.name-index l.names) n) ≡ among l.names n
