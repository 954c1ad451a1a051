-- What a unit of work takes of a target, this project's own: operators, stateless units, cells of its register, and the bits
-- of its table.
use Rattle.std.specs.Prelude.{ℕ, ◌+◌, ◌-◌, ◌*◌, max, Bool, List, [], ◌∷◌, length, sum_by, Option, Some, None, option_map, unwrap_or, if◌then◌else◌}
use Rattle.std.specs.List.{list_any, position_or_len}
use Rattle.elastic_ast.specs.declared.statements.Amount.{Amount}
use Rattle.elastic_ast.specs.declared.statements.Amount.TheVariants as amount
use Rattle.elastic_ast.specs.declared.flat.Lit.{Lit}
use Rattle.elastic_ast.specs.declared.flat.Location.{Location}
use Rattle.elastic_ast.specs.declared.flat.Location.TheVariants as location
use Rattle.elastic_ast.specs.declared.flat.Cells.{Cells}
use Rattle.elastic_ast.specs.declared.flat.Cells.TheVariants as cells
use Rattle.elastic_ast.specs.declared.declarations.Key.{Key}
use Rattle.elastic_ast.specs.Tree.{Name, PlainDecl, PlainExpr, PlainStmt, PlainStmts, PlainAction, PlainTable}
use Rattle.elastic_ast.specs.Typing.Scope.{same, found}
use Rattle.elastic_ast.specs.OperatorSorts.{operators_in}
use Rattle.elastic_ast.specs.Sizes.SizeSums.{symbols_of}
use Rattle.elastic_ast.specs.Typing.Types.{lval_type, width_of_type}
use Rattle.elastic_ast.specs.Typing.LookUps.{action_of, table_of}
use Rattle.elastic_ast.specs.Units.PlainUnits.{PlainWork, Plain, Call, Apply, Pred}

abbrev pub exprs_ops : List PlainExpr → ℕ
exprs_ops expressions = sum_by operators_in expressions

abbrev pub plain_ops : PlainStmt → ℕ
plain_ops (PlainStmt.Assign to number) = operators_in number
plain_ops (PlainStmt.Read to register cell) = operators_in cell
plain_ops (PlainStmt.Write register cell number) = operators_in cell + operators_in number
plain_ops _ = 0

abbrev pub body_ops : PlainStmts → ℕ
body_ops PlainStmts.nil = 0
body_ops (PlainStmts.cons first rest) = plain_ops first + body_ops rest

-- an action that isn't declared, as `NoAction`, has none
abbrev pub action_ops : Option PlainAction → ℕ
action_ops (Some action) = body_ops action.body
action_ops None = 0

-- the greatest number that one of these actions has
abbrev pub most_ops : List PlainDecl → List Name → ℕ
most_ops decls [] = 0
most_ops decls (first ∷ rest) = max (action_ops (action_of decls first)) (most_ops decls rest)

abbrev pub table_ops : List PlainDecl → Option PlainTable → ℕ
table_ops decls (Some table) = most_ops decls table.actions
table_ops decls None = 0

abbrev pub leaf_ops : List PlainDecl → PlainStmt → ℕ
leaf_ops decls (PlainStmt.Call action index args) = exprs_ops args + action_ops (action_of decls action)
leaf_ops decls (PlainStmt.Apply table) = table_ops decls (table_of decls table)
leaf_ops decls statement = plain_ops statement

-- a condition that is kept in a predicate is cast to one bit
abbrev pub work_ops : List PlainDecl → PlainWork → ℕ
work_ops decls (Plain statement) = leaf_ops decls statement
work_ops decls (Call statement) = leaf_ops decls statement
work_ops decls (Apply table) = leaf_ops decls (PlainStmt.Apply table)
work_ops decls (Pred number condition) = 1 + operators_in condition

-- the one condition that all tests make together: each literal is a comparison, and `&&` stands between each two tests
abbrev pub guard_ops : List Lit → List PlainExpr → ℕ
guard_ops lits conds = (length lits + exprs_ops conds) + (length lits + length conds - 1)

abbrev pub piece_ops : List PlainDecl → List Lit → List PlainExpr → PlainWork → ℕ
piece_ops decls lits conds work = guard_ops lits conds + work_ops decls work

abbrev pub stateless_units : Location → ℕ
stateless_units (location.Reg name own) = 0
stateless_units _ = 1

-- the stateless units that it takes: how many of the locations that it may assign are no register, and 1 at least
abbrev pub cost_of : List Location → ℕ
cost_of writes = max 1 (sum_by stateless_units writes)

abbrev pub register_of : Location → Option Name
register_of (location.Reg name own) = Some name
register_of _ = None

-- a symbol's number: its place among the symbols
abbrev pub place_of_symbol : List PlainDecl → Name → ℕ
place_of_symbol decls name = position_or_len (same name) (symbols_of decls)

abbrev pub cells_counted : List PlainDecl → Amount → Cells
cells_counted decls (amount.Num number) = cells.Fixed number
cells_counted decls (amount.Named symbol) = cells.Symbol (place_of_symbol decls symbol)

-- a register of this name, as its cells and their width
abbrev pub kept_in : List PlainDecl → Name → PlainDecl → Option (Cells × ℕ)
kept_in decls name (PlainDecl.Register register width count size) =
    if same name register then Some (cells_counted decls count, width) else None
kept_in decls name _ = None

abbrev pub kept_by : List PlainDecl → Option Name → Option (Cells × ℕ)
kept_by decls (Some name) = found (kept_in decls name) decls
kept_by decls None = None

-- the cells of the first register among the locations that it may assign, and their width; no cells, and the width 0, where
-- there is none
abbrev pub cells_named : List PlainDecl → List Location → Option Cells
cells_named decls writes = option_map (λ kept. kept.0) (kept_by decls (found register_of writes))

abbrev pub width_named : List PlainDecl → List Location → ℕ
width_named decls writes = unwrap_or (option_map (λ kept. kept.1) (kept_by decls (found register_of writes))) 0

-- the bits of a table: its size, or else the number of its entries, times the bits of all its keys
abbrev pub key_bits : List PlainDecl → List Key → ℕ
key_bits decls keys = sum_by (λ key. width_of_type (lval_type decls key.field)) keys

abbrev pub has_ternary : List Key → Bool
has_ternary keys = list_any (λ key. key.ternary) keys

abbrev pub rows_by_keys : List PlainDecl → PlainTable → ℕ
rows_by_keys decls table = unwrap_or table.size (length table.entries) * key_bits decls table.keys

-- a table whose keys are all exact has table bits
abbrev pub exact_bits : List PlainDecl → Option PlainTable → ℕ
exact_bits decls (Some table) = if has_ternary table.keys then 0 else rows_by_keys decls table
exact_bits decls None = 0

-- any other table has twice as many ternary bits
abbrev pub masked_bits : List PlainDecl → Option PlainTable → ℕ
masked_bits decls (Some table) = if has_ternary table.keys then 2 * rows_by_keys decls table else 0
masked_bits decls None = 0

abbrev pub table_applied : List PlainDecl → PlainWork → Option PlainTable
table_applied decls (Apply table) = table_of decls table
table_applied decls _ = None
