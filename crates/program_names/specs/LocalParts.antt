-- What a control declares before its body, and the states of a parser, each found by its name; this project's own.
use Rattle.std.specs.Prelude.{◌≡◌, ℕ, ◌≤◌, true, List, map, length, Option, IfSome, option_map, option_and_then}
use Rattle.std.specs.Option.{option_copied}
use denote.Bor.{Bor}
use Rattle.elastic_ast.specs.declared.declarations.Local.{Local}
use Rattle.elastic_ast.specs.declared.declarations.State.{State}
use Rattle.elastic_ast.specs.Tree.{Name, PlainAction, PlainTable, PlainLocal, PlainState}
use Rattle.elastic_ast.specs.Seen.{seen_local, seen_state}
use Rattle.elastic_ast.specs.Typing.Scope.{same, found}
use Rattle.elastic_ast.specs.Typing.LookUps.{action_in, table_in}
use Rattle.elastic_ast.specs.Typing.AskedInLocals.{local_name}

abbrev pub seen_locals : List Local → List PlainLocal
seen_locals = map seen_local

abbrev pub local_action : List Local → Name → Option PlainAction
local_action locals name = found (action_in name) (seen_locals locals)

abbrev pub local_table : List Local → Name → Option PlainTable
local_table locals name = found (table_in name) (seen_locals locals)

abbrev pub seen_states : List State → List PlainState
seen_states = map seen_state

-- the name of an action or a table
abbrev pub name_of_local : Local → Name
name_of_local local = local_name (seen_local local)

-- names are those of actions and tables, of which the first so many are looked up
pub record AreLocals (names : List Name) (locals : List Local) (count : ℕ) : Type 0 where
  pub all : names ≡ map name_of_local locals
  pub within : count ≤ length locals

-- what some actions and tables declare under a name, each kind of thing, is what one of them does, or there is none
pub record LocalUnder (name : Name) (locals : List PlainLocal) (local : Option PlainLocal) : Type 0 where
  pub named : IfSome local (λ x. same name (local_name x) ≡ true)
  pub action : found (action_in name) locals ≡ option_and_then (action_in name) local
  pub table : found (table_in name) locals ≡ option_and_then (table_in name) local

abbrev pub IsUnder : Name → List Local → Option (Bor Local) → Type 0
IsUnder name locals local = LocalUnder name (seen_locals locals) (option_map seen_local (option_copied local))
