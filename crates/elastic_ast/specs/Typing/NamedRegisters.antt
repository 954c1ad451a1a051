-- Which registers the units of work of a program name, and when a register is named twice; this project's own. A plain
-- statement, a call of an action and the application of a table are one unit each; conditions name no register.
use Rattle.std.specs.Prelude.{◌≡◌, ◌≢◌, ℕ, Bool, true, false, List, [], ◌∷◌, ◌++◌, flat_map, Option, Some, None, Contains, slice_get, ◌⊎◌, is_some}
use Rattle.elastic_ast.specs.Tree.{Name, PlainDecl, PlainStmt, PlainStmts, PlainAction, PlainTable, PlainLocal}
use Rattle.elastic_ast.specs.Typing.Scope.{found}
use Rattle.elastic_ast.specs.Typing.LookUps.{register_size, action_in, table_in}

abbrev pub plain_registers : PlainStmt → List Name
plain_registers (PlainStmt.Read to register cell) = register.name ∷ []
plain_registers (PlainStmt.Write register cell value) = register.name ∷ []
plain_registers _ = []

-- The registers that the body of an action names. It has plain statements alone, and no text spells another body: so what
-- stands in a block, a branch or a loop there isn't looked at, as it writes nothing.
abbrev pub body_registers : PlainStmts → List Name
body_registers PlainStmts.nil = []
body_registers (PlainStmts.cons first rest) = plain_registers first ++ body_registers rest

abbrev pub registers_of_action : Option PlainAction → List Name
registers_of_action None = []
registers_of_action (Some action) = body_registers action.body

abbrev pub action_registers : List PlainLocal → Name → List Name
action_registers locals name = registers_of_action (found (action_in name) locals)

-- those of all actions of a table
abbrev pub registers_of_table : List PlainLocal → Option PlainTable → List Name
registers_of_table locals None = []
registers_of_table locals (Some table) = flat_map (action_registers locals) table.actions

abbrev pub table_registers : List PlainLocal → Name → List Name
table_registers locals name = registers_of_table locals (found (table_in name) locals)

-- a unit: whether it stands in a loop, and the registers that it names
abbrev pub Naming : Type 0
Naming = Bool × List Name

-- the units of statements, in the order of the text
abbrev mutual
  pub unit_registers : List PlainLocal → Bool → PlainStmt → List Naming
  unit_registers locals looped (PlainStmt.Block stage body) = units_registers locals looped body
  unit_registers locals looped (PlainStmt.If condition body) = units_registers locals looped body
  unit_registers locals looped (PlainStmt.IfElse condition body other) = units_registers locals looped body ++ units_registers locals looped other
  unit_registers locals looped (PlainStmt.For index size body) = units_registers locals true body
  unit_registers locals looped (PlainStmt.Call action index args) = (looped, action_registers locals action) ∷ []
  unit_registers locals looped (PlainStmt.Apply table) = (looped, table_registers locals table) ∷ []
  unit_registers locals looped statement = (looped, plain_registers statement) ∷ []

  pub units_registers : List PlainLocal → Bool → PlainStmts → List Naming
  units_registers locals looped PlainStmts.nil = []
  units_registers locals looped (PlainStmts.cons first rest) = unit_registers locals looped first ++ units_registers locals looped rest

abbrev pub registers_in : PlainDecl → List Naming
registers_in (PlainDecl.Control name locals body) = units_registers locals false body
registers_in _ = []

-- of all units of a program
abbrev pub named_registers : List PlainDecl → List Naming
named_registers = flat_map registers_in

-- the unit of this number names the register
abbrev pub UnitNames : List PlainDecl → ℕ → Name → Type 0
UnitNames decls unit register = (naming : Naming) × (slice_get (named_registers decls) unit ≡ Some naming) × Contains naming.1 register

-- it stands in a loop, and so once for each index
abbrev pub IsLooped : List PlainDecl → ℕ → Type 0
IsLooped decls unit = (names : List Name) × (slice_get (named_registers decls) unit ≡ Some (true, names))

-- the register is one of an array, and has an instance for each index
abbrev pub is_array : List PlainDecl → Name → Bool
is_array decls register = of (register_size decls register)
  where
    of : Option (Option Name) → Bool
    of None = false
    of (Some size) = is_some size

-- two units name the register, or a unit in a loop does though it is no array, or one unit names it and another one
abbrev pub NamedTwice : List PlainDecl → Name → Type 0
NamedTwice decls register =
    ((one other : ℕ) × UnitNames decls one register × UnitNames decls other register × (one ≢ other))
    ⊎ ((unit : ℕ) × UnitNames decls unit register × IsLooped decls unit × (is_array decls register ≡ false))
    ⊎ ((unit : ℕ) × (second : Name) × UnitNames decls unit register × UnitNames decls unit second × (second ≢ register))

abbrev pub IsUnnamed : List PlainDecl → Name → Type 0
IsUnnamed decls register = (unit : ℕ) → UnitNames decls unit register → ⊥
