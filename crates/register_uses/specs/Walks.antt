-- What a walk over the units of a control makes of the registers, step by step; this project's own.
use Rattle.std.specs.Prelude.{◌≡◌, ℕ, Bool, true, false, List, ◌∷◌, [], Some, None, if◌then◌else◌}
use Rattle.std.specs.List.{list_any}
use denote.Bor.{Bor}
use Rattle.elastic_ast.specs.declared.declarations.Local.{Local}
use Rattle.elastic_ast.specs.declared.statements.Stmt.{Stmt}
use Rattle.elastic_ast.specs.Tree.{Name}
use Rattle.elastic_ast.specs.Seen.{seen_stmt, seen_stmts}
use Rattle.elastic_ast.specs.Typing.Scope.{same, among}
use Rattle.elastic_ast.specs.Typing.NamedRegisters.{Naming, plain_registers, body_registers, unit_registers, units_registers}
use Rattle.register_uses.specs.Uses.{combined, twice_if, use_in_units}
use Rattle.program_names.specs.FirstNamed.{entry_value}
use Rattle.register_uses.specs.LocalTables.{seen_locals, named_by_action, named_by_table}
use Rattle.register_uses.specs.declared.uses.Use.{Use}
use Rattle.register_uses.specs.declared.uses.Use.TheVariants as usage
use Rattle.register_uses.specs.declared.walk.Walk.{Walk}

-- the entries of a table of uses
abbrev pub UseEntries : Type 0
UseEntries = List (Bor (List ℕ) × Use)

-- one use more of a register
abbrev pub Notes : UseEntries → UseEntries → Name → Use → Type 0
Notes old new name more = (register : Name) → entry_value new register ≡ combined (entry_value old register) (if same register name then Some more else None)

-- each of some registers is named twice now
abbrev pub Marks : UseEntries → UseEntries → List Name → Type 0
Marks old new names = (register : Name) → entry_value new register ≡ combined (entry_value old register) (twice_if (among names register))

-- some units more
abbrev pub Adds : UseEntries → UseEntries → List Naming → Type 0
Adds old new namings = (register : Name) → entry_value new register ≡ combined (entry_value old register) (use_in_units namings register)

-- a set of names has a name
abbrev pub is_in : List (Bor (List ℕ)) → Name → Bool
is_in names name = list_any (λ key. same name key.now) names

-- the registers of each action, or table, whose name a set has are named twice
abbrev pub AreMarked : (Name → List Name) → List (Bor (List ℕ)) → UseEntries → Type 0
AreMarked named names uses =
    (name : Name) → is_in names name ≡ true → (register : Name) → among (named name) register ≡ true → entry_value uses register ≡ Some usage.Twice

pub record IsMarked (locals : List Local) (walk : Walk) : Type 0 where
  pub actions : AreMarked (named_by_action locals) walk.actions.keys walk.uses.entries
  pub tables : AreMarked (named_by_table locals) walk.tables.keys walk.uses.entries

-- some registers are named twice, and what is marked is so still
pub record HasMarked (locals : List Local) (old new : Walk) (names : List Name) : Type 0 where
  pub marks : Marks old.uses.entries new.uses.entries names
  pub all : IsMarked locals new

-- some units are added, and what is marked is so still
pub record HasAdded (locals : List Local) (old new : Walk) (namings : List Naming) : Type 0 where
  pub adds : Adds old.uses.entries new.uses.entries namings
  pub all : IsMarked locals new

-- the registers that a statement of an action's body names, or the body
abbrev pub MarksStmt : UseEntries → UseEntries → Stmt → Type 0
MarksStmt old new stmt = Marks old new (plain_registers (seen_stmt stmt))

abbrev pub MarksBody : UseEntries → UseEntries → List Stmt → Type 0
MarksBody old new body = Marks old new (body_registers (seen_stmts body))

-- the unit of a statement that calls nothing
abbrev pub AddsPlain : UseEntries → UseEntries → Bool → Stmt → Type 0
AddsPlain old new looped stmt = Adds old new ((looped, plain_registers (seen_stmt stmt)) ∷ [])

abbrev pub HasAddedStmt : List Local → Walk → Walk → Bool → Stmt → Type 0
HasAddedStmt locals old new looped stmt = HasAdded locals old new (unit_registers (seen_locals locals) looped (seen_stmt stmt))

abbrev pub HasAddedStmts : List Local → Walk → Walk → Bool → List Stmt → Type 0
HasAddedStmts locals old new looped stmts = HasAdded locals old new (units_registers (seen_locals locals) looped (seen_stmts stmts))

-- the units of a control's body
abbrev pub AddsControl : UseEntries → UseEntries → List Local → List Stmt → Type 0
AddsControl old new locals body = Adds old new (units_registers (seen_locals locals) false (seen_stmts body))
