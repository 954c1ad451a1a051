-- A table of the first thing of each name; this project's own.
use Rattle.std.specs.Prelude.{◌≡◌, ℕ, List, Option, Some, None, option_map, if◌then◌else◌}
use Rattle.std.specs.Map.{lookup}
use denote.Bor.{Bor}
use Rattle.elastic_ast.specs.Tree.{Name}
use Rattle.elastic_ast.specs.Typing.Scope.{same, or_else, found}

-- what a table has under a name
abbrev pub entry_value : {V : Type 0} → List (Bor (List ℕ) × V) → Name → Option V
entry_value entries name = lookup (λ key. same name key.now) entries

-- a thing has got its place under a name, unless another has it
abbrev pub EntersValue : {V : Type 0} → List (Bor (List ℕ) × V) → List (Bor (List ℕ) × V) → Name → V → Type 0
EntersValue old new key value = (name : Name) → entry_value new name ≡ or_else (entry_value old name) (if same name key then Some value else None)

-- the first of some elements that gives something under a name gives what the table shows there
abbrev pub HasFirst : {V A B : Type 0} → (V → B) → (Name → A → Option B) → List (Bor (List ℕ) × V) → List A → Type 0
HasFirst shown gives entries elements = (name : Name) → option_map shown (entry_value entries name) ≡ found (gives name) elements

-- one element more
abbrev pub EntersFirst : {V A B : Type 0} → (V → B) → (Name → A → Option B) → List (Bor (List ℕ) × V) → List (Bor (List ℕ) × V) → A → Type 0
EntersFirst shown gives old new element = (name : Name) → option_map shown (entry_value new name) ≡ or_else (option_map shown (entry_value old name)) (gives name element)
