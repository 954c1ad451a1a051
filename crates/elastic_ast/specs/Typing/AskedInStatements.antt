-- What statements ask where they stand; this project's own. Calls are of the actions and tables that the control declares.
use Rattle.std.specs.Prelude.{◌==◌, Bool, true, false, List, [], ◌∷◌, ◌++◌, length, Option, Some, None, is_some, is_none, codes, if◌then◌else◌}
use Rattle.elastic_ast.specs.Typing.LanguageLimits.{cell_number_width}
use Rattle.elastic_ast.specs.declared.statements.Lval.{Lval}
use Rattle.elastic_ast.specs.declared.statements.RegRef.{RegRef}
use Rattle.elastic_ast.specs.declared.declarations.Param.{Param}
use Rattle.elastic_ast.specs.Tree.{Name, PlainExpr, PlainStmt, PlainStmts, PlainAction, PlainLocal}
use Rattle.elastic_ast.specs.Typing.Scope.{same, found, is_symbol, Scope, is_index}
use Rattle.elastic_ast.specs.Typing.LookUps.{is_member, register_size, register_width, action_in, table_in}
use Rattle.elastic_ast.specs.Typing.Types.{Ty, Bits, bits_of, of_width, lval_type}
use Rattle.elastic_ast.specs.Typing.Demand.{Demand, Known, Alike, Indexed, Alone, Called}
use Rattle.elastic_ast.specs.Typing.AskedOfNames.{asks_names}
use Rattle.elastic_ast.specs.Typing.AskedInExpressions.{asks_index, index_fits, asks_lval, asks_bits, asks_truth}

abbrev pub no_action_name : Name
no_action_name = codes "NoAction"

-- `NoAction` has no parameters and does nothing
abbrev pub no_action : PlainAction
no_action = record { name = no_action_name; index = None; params = []; body = PlainStmts.nil }

-- the action of a name among some actions and tables; `NoAction` counts as declared
abbrev pub action_among : List PlainLocal → Name → Option PlainAction
action_among locals name = if same name no_action_name then Some no_action else found (action_in name) locals

abbrev pub is_table : List PlainLocal → Name → Bool
is_table locals name = is_some (found (table_in name) locals)

-- the sizes of the loops that call an action, where the statement stands in loops of the given sizes
abbrev mutual
  pub calling_sizes : Name → List Name → PlainStmt → List Name
  calling_sizes action around (PlainStmt.Block stage body) = calling_sizes_in action around body
  calling_sizes action around (PlainStmt.If condition body) = calling_sizes_in action around body
  calling_sizes action around (PlainStmt.IfElse condition body other) = calling_sizes_in action around body ++ calling_sizes_in action around other
  calling_sizes action around (PlainStmt.For index size body) = calling_sizes_in action (size ∷ []) body
  calling_sizes action around (PlainStmt.Call name index args) = if same action name then around else []
  calling_sizes action around _ = []

  pub calling_sizes_in : Name → List Name → PlainStmts → List Name
  calling_sizes_in action around PlainStmts.nil = []
  calling_sizes_in action around (PlainStmts.cons first rest) = calling_sizes action around first ++ calling_sizes_in action around rest

-- a register, or one of an array of registers
abbrev pub asks_register : Scope → Option (Option Name) → Option Name → List Demand
asks_register scope None index = Known false ∷ asks_index scope index
asks_register scope (Some size) index = Indexed (index_fits scope size index) ∷ asks_index scope index

abbrev pub asks_register_of : Scope → RegRef → List Demand
asks_register_of scope register = asks_register scope (register_size scope.before register.name) register.index

-- the width of a register's cells
abbrev pub register_type : Scope → RegRef → Ty
register_type scope register = of_width (register_width scope.before register.name)

-- one argument for each parameter, in its width
abbrev pub asks_args : Scope → List PlainExpr → List Param → List Demand
asks_args scope [] params = Called (length params == 0) ∷ []
asks_args scope (arg ∷ args) [] = Called false ∷ []
asks_args scope (arg ∷ args) (param ∷ params) = asks_bits scope arg (bits_of param.width) ++ asks_args scope args params

-- an action with an index is called with the index around, and another action without one
abbrev pub is_called : Scope → Option Name → Option Name → Bool
is_called scope None None = true
is_called scope None (Some given) = false
is_called scope (Some index) None = false
is_called scope (Some index) (Some given) = is_index scope given

abbrev pub asks_call : Scope → Option PlainAction → Option Name → List PlainExpr → List Demand
asks_call scope None index args = Known false ∷ []
asks_call scope (Some action) index args = Indexed (is_called scope action.index index) ∷ (asks_index scope index ++ asks_args scope args action.params)

-- a loop stands in no loop and is over a symbol; its index is a scope of its own
abbrev pub asks_loop : Scope → Name → Name → List Demand
asks_loop scope index size = Alone (is_none scope.index) ∷ Known (is_symbol scope.before size) ∷ asks_names [] (index ∷ [])

-- in a loop over a size
abbrev pub in_loop : Scope → Name → Name → Scope
in_loop scope index size = record scope { index = Some index; sizes = size ∷ [] }

-- a cell is numbered in 32 bits
abbrev pub asks_cell : Scope → PlainExpr → List Demand
asks_cell scope cell = asks_bits scope cell (Bits cell_number_width)

abbrev pub asks_read : Scope → Lval → RegRef → PlainExpr → List Demand
asks_read scope to register cell =
    asks_lval scope to ++ (asks_register_of scope register ++ (asks_cell scope cell ++ (Alike (lval_type scope.before to) (register_type scope register) ∷ [])))

abbrev pub asks_write : Scope → RegRef → PlainExpr → PlainExpr → List Demand
asks_write scope register cell value = asks_register_of scope register ++ (asks_cell scope cell ++ asks_bits scope value (register_type scope register))

abbrev mutual
  pub asks_stmt : Scope → List PlainLocal → PlainStmt → List Demand
  asks_stmt scope locals (PlainStmt.Block stage body) = asks_stmts scope locals body
  asks_stmt scope locals (PlainStmt.If condition body) = asks_truth scope condition ++ asks_stmts scope locals body
  asks_stmt scope locals (PlainStmt.IfElse condition body other) =
      asks_truth scope condition ++ (asks_stmts scope locals body ++ asks_stmts scope locals other)
  asks_stmt scope locals (PlainStmt.For index size body) = asks_loop scope index size ++ asks_stmts (in_loop scope index size) locals body
  asks_stmt scope locals (PlainStmt.Assign to value) = asks_lval scope to ++ asks_bits scope value (lval_type scope.before to)
  asks_stmt scope locals (PlainStmt.Read to register cell) = asks_read scope to register cell
  asks_stmt scope locals (PlainStmt.Write register cell value) = asks_write scope register cell value
  asks_stmt scope locals (PlainStmt.Valid header on) = Known (is_member scope.before header) ∷ []
  asks_stmt scope locals (PlainStmt.Call action index args) = asks_call scope (action_among locals action) index args
  asks_stmt scope locals (PlainStmt.Apply table) = Known (is_table locals table) ∷ []

  pub asks_stmts : Scope → List PlainLocal → PlainStmts → List Demand
  asks_stmts scope locals PlainStmts.nil = []
  asks_stmts scope locals (PlainStmts.cons first rest) = asks_stmt scope locals first ++ asks_stmts scope locals rest
