-- The places of symbols, by their names; this project's own.
use Rattle.std.specs.Prelude.{◌≡◌, ℕ, List, Option}
use Rattle.std.specs.List.{position_from}
use denote.Bor.{Bor}
use Rattle.elastic_ast.specs.Tree.{Name}
use Rattle.elastic_ast.specs.Typing.Scope.{same}
use Rattle.program_names.specs.FirstNamed.{entry_value}

-- the number of the first symbol of a name, counted from 0
abbrev pub place_of : List Name → Name → Option ℕ
place_of symbols name = position_from (same name) 0 symbols

-- a table has the first place of each name
abbrev pub HasPlaces : List Name → List (Bor (List ℕ) × ℕ) → Type 0
HasPlaces symbols entries = (name : Name) → entry_value entries name ≡ place_of symbols name
