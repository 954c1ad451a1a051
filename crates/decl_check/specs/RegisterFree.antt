-- Which actions of a control name no register; this project's own.
use Rattle.std.specs.Prelude.{◌≡◌, ℕ, Bool, true, List, map, take, length, ◌==◌, IfSome}
use Rattle.elastic_ast.specs.declared.declarations.Local.{Local}
use Rattle.elastic_ast.specs.Tree.{Name, PlainAction, PlainLocal}
use Rattle.elastic_ast.specs.Seen.{seen_local}
use Rattle.elastic_ast.specs.Typing.NamedRegisters.{body_registers}
use Rattle.program_names.specs.LocalParts.{local_action, name_of_local}

-- the body of an action names no register
abbrev pub is_register_free : PlainAction → Bool
is_register_free action = length (body_registers action.body) == 0

-- an action is so, or it is no action
abbrev pub is_register_free_local : PlainLocal → Bool
is_register_free_local (PlainLocal.OfAction action) = is_register_free action
is_register_free_local (PlainLocal.OfTable table) = true

abbrev pub register_free_local : Local → Bool
register_free_local local = is_register_free_local (seen_local local)

-- names are those of actions and tables, and the answers are theirs
pub record AreRegisterFree (names : List Name) (locals : List Local) (free : List Bool) : Type 0 where
  pub all : names ≡ map name_of_local locals
  pub told : free ≡ map register_free_local locals

-- the answer of an action of a name, where it is looked for among the first of some
abbrev pub IsRegisterFreeUnder : List Local → Name → Bool → Type 0
IsRegisterFreeUnder locals name free = (count : ℕ) → IfSome (local_action (take count locals) name) (λ action. free ≡ is_register_free action)

-- some are the first of all
abbrev pub AreFirst : List Local → List Local → Type 0
AreFirst some all = (count : ℕ) × (some ≡ take count all)
