-- Sizes that are all the same; this project's own.
use Rattle.std.specs.Prelude.{Bool, true, List, [], ◌∷◌, map}
use Rattle.std.specs.List.{list_all}
use denote.Bor.{Bor}
use Rattle.elastic_ast.specs.Tree.{Name}
use Rattle.elastic_ast.specs.Typing.Scope.{same}

abbrev pub name_now : Bor Name → Name
name_now name = name.now

-- each is the first
abbrev pub all_one : List Name → Bool
all_one [] = true
all_one (first ∷ rest) = list_all (same first) (first ∷ rest)

abbrev pub are_one : List (Bor Name) → Bool
are_one sizes = all_one (map name_now sizes)
