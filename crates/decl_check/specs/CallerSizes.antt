-- The sizes of the loops that call the actions of a control, as they are gathered; this project's own.
use Rattle.std.specs.Prelude.{◌≡◌, ℕ, List, [], ◌∷◌, ◌++◌, map, length, slice_get, slice_index_or, slice_set, Option, Some, if◌then◌else◌}
use Rattle.std.specs.Option.{option_copied}
use denote.Bor.{Bor}
use Rattle.elastic_ast.specs.declared.statements.Stmt.{Stmt}
use Rattle.elastic_ast.specs.Tree.{Name, PlainStmt, PlainStmts}
use Rattle.elastic_ast.specs.Seen.{seen_stmt, seen_stmts}
use Rattle.elastic_ast.specs.Typing.Scope.{same}
use Rattle.elastic_ast.specs.Typing.AskedInStatements.{calling_sizes, calling_sizes_in}
use Rattle.program_names.specs.TopNames.{option_list}
use Rattle.expr_types.specs.Agreeing.{name_now}

-- the loop around, if there is one
abbrev pub around_names : Option (Bor Name) → List Name
around_names around = option_list (option_copied around)

-- the sizes at a place
abbrev pub sizes_at : List (List (Bor Name)) → ℕ → List Name
sizes_at sizes place = map name_now (slice_index_or sizes place [])

-- one size more at a place
abbrev pub with_size : List (List (Bor Name)) → ℕ → Bor Name → List (List (Bor Name))
with_size sizes place size = slice_set sizes place (slice_index_or sizes place [] ++ size ∷ [])

-- at the place of each name, some sizes are put to those that are there
pub record AddsSizes (names : List Name) (more : Name → List Name) (old new : List (List (Bor Name))) : Type 0 where
  pub as_many : length new ≡ length old
  pub each : (place : ℕ) (name : Name) → slice_get names place ≡ Some name → sizes_at new place ≡ sizes_at old place ++ more name

-- the sizes of loops that call an action by one call, by a statement, and by statements
abbrev pub sizes_of_call : List Name → Name → Name → List Name
sizes_of_call around called name = if same name called then around else []

abbrev pub sizes_of : List Name → PlainStmt → Name → List Name
sizes_of around stmt name = calling_sizes name around stmt

abbrev pub sizes_in : List Name → PlainStmts → Name → List Name
sizes_in around stmts name = calling_sizes_in name around stmts

abbrev pub HasCall : List Name → Option (Bor Name) → Name → List (List (Bor Name)) → List (List (Bor Name)) → Type 0
HasCall names around called old new = AddsSizes names (sizes_of_call (around_names around) called) old new

abbrev pub HasCallers : List Name → Option (Bor Name) → Stmt → List (List (Bor Name)) → List (List (Bor Name)) → Type 0
HasCallers names around stmt old new = AddsSizes names (sizes_of (around_names around) (seen_stmt stmt)) old new

abbrev pub HasCallersIn : List Name → Option (Bor Name) → List Stmt → List (List (Bor Name)) → List (List (Bor Name)) → Type 0
HasCallersIn names around stmts old new = AddsSizes names (sizes_in (around_names around) (seen_stmts stmts)) old new

-- there are so many lists, and nothing in them
pub record AreEmpty (count : ℕ) (sizes : List (List (Bor Name))) : Type 0 where
  pub as_many : length sizes ≡ count
  pub none : (place : ℕ) → slice_index_or sizes place [] ≡ []

-- the sizes are those of the loops of a control's body that call an action
abbrev pub AreCallers : Name → List Stmt → List (Bor Name) → Type 0
AreCallers action body sizes = map name_now sizes ≡ calling_sizes_in action [] (seen_stmts body)

-- they are that for the action of each name
pub record AreAllCallers (names : List Name) (body : List Stmt) (sizes : List (List (Bor Name))) : Type 0 where
  pub as_many : length sizes ≡ length names
  pub each : (place : ℕ) (name : Name) → slice_get names place ≡ Some name → sizes_at sizes place ≡ calling_sizes_in name [] (seen_stmts body)
