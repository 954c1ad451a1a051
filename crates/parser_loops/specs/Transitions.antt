-- The transitions of a parser's states, case by case, and the numbers of the states by their names; this project's own.
use Rattle.std.specs.Prelude.{◌≡◌, ◌↔◌, ℕ, List, [], Option, Some, None, slice_get}
use Rattle.std.specs.Map.{lookup}
use denote.Bor.{Bor}
use Rattle.elastic_ast.specs.Tree.{Name, PlainState}
use Rattle.elastic_ast.specs.Typing.ParserLoops.{state_names, targets_of}
use Rattle.elastic_ast.specs.Typing.Scope.{same}

-- no two places of a list have one name
abbrev pub Distinct : List Name → Type 0
Distinct names = (one other : ℕ) (name : Name) → slice_get names one ≡ Some name → slice_get names other ≡ Some name → one ≡ other

abbrev pub targets_from : Option PlainState → List Name
targets_from (Some state) = targets_of state.next
targets_from None = []

-- the names to which the state of a number goes on, one a case of its transition
abbrev pub targets_at : List PlainState → ℕ → List Name
targets_at states state = targets_from (slice_get states state)

-- a case of a state goes on to the other state
abbrev pub IsCase : List PlainState → ℕ → ℕ → ℕ → Type 0
IsCase states state case other = (name : Name) × (slice_get (targets_at states state) case ≡ Some name) × (slice_get (state_names states) other ≡ Some name)

-- the number that a table has for a name
abbrev pub entered : List (Bor (List ℕ) × ℕ) → Name → Option ℕ
entered entries name = lookup (λ key. same name key.now) entries

-- a table has the number of each state under its name, and nothing else
abbrev pub HasNumbers : List PlainState → List (Bor (List ℕ) × ℕ) → Type 0
HasNumbers states entries = (name : Name) (number : ℕ) → (entered entries name ≡ Some number) ↔ (slice_get (state_names states) number ≡ Some name)
