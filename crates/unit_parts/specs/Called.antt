-- What a piece of work calls, and what that reads, assigns and has of operators, apart from what stands in the piece itself;
-- this project's own.
use Rattle.std.specs.Prelude.{ℕ, ◌+◌, max, Bool, List, [], ◌∷◌, ◌++◌, map, flat_map, Option, Some, None, option_map}
use denote.Bor.{Bor}
use Rattle.elastic_ast.specs.declared.statements.Expr.{Expr}
use Rattle.elastic_ast.specs.declared.declarations.Action.{Action}
use Rattle.elastic_ast.specs.declared.flat.Location.{Location}
use Rattle.elastic_ast.specs.declared.flat.Location.TheVariants as location
use Rattle.elastic_ast.specs.Tree.{Name, PlainDecl, PlainExpr, PlainStmt, PlainAction, PlainTable}
use Rattle.elastic_ast.specs.Seen.{seen_exprs}
use Rattle.elastic_ast.specs.OperatorSorts.{operators_in}
use Rattle.elastic_ast.specs.Typing.LookUps.{action_of, table_of}
use Rattle.elastic_ast.specs.Units.PlainUnits.{PlainWork, Plain, Call, Apply, Pred}
use Rattle.elastic_ast.specs.Units.Reach.{expr_reads, exprs_read, plain_reads, plain_assigns, keys_read, entries_read, fallback_reads, action_reads, action_assigns, lits_read, each_once}
use Rattle.elastic_ast.specs.Units.Costs.{exprs_ops, plain_ops, action_ops, guard_ops}
use Rattle.expr_types.specs.ProgramParts.{action_shown, table_shown}
use Rattle.unit_parts.specs.declared.callee.Callee.{Callee}
use Rattle.unit_parts.specs.Spread.{PieceAround}

-- the actions that references show
abbrev pub actions_shown : List (Option (Bor Action)) → List (Option PlainAction)
actions_shown actions = map action_shown actions

-- the table and the actions of what is called
abbrev pub callee_table : Callee → Option PlainTable
callee_table callee = table_shown callee.table

abbrev pub callee_actions : Callee → List (Option PlainAction)
callee_actions callee = actions_shown callee.actions.items

abbrev pub seen_fallback : Option (Name × List Expr) → Option (Name × List PlainExpr)
seen_fallback fallback = option_map (λ default. (default.0, seen_exprs default.1)) fallback

-- what a table reads, its actions aside
abbrev pub tabled_reads : Option PlainTable → List Location
tabled_reads (Some table) = keys_read table.keys ++ (entries_read table.entries ++ fallback_reads table.fallback)
tabled_reads None = []

-- what actions read
abbrev pub bodies_read : List (Option PlainAction) → List Location
bodies_read actions = flat_map action_reads actions

-- what a table and actions read
abbrev pub callee_reads : Option PlainTable → List (Option PlainAction) → List Location
callee_reads table actions = tabled_reads table ++ bodies_read actions

abbrev pub callee_assigns : List (Option PlainAction) → List Location
callee_assigns actions = flat_map action_assigns actions

abbrev pub greatest_ops : List (Option PlainAction) → ℕ
greatest_ops [] = 0
greatest_ops (first ∷ rest) = max (action_ops first) (greatest_ops rest)

-- what a statement reads, has of operators and may assign by itself
abbrev pub leaf_own_reads : PlainStmt → List Location
leaf_own_reads (PlainStmt.Call action index args) = exprs_read args
leaf_own_reads statement = plain_reads statement

abbrev pub leaf_own_ops : PlainStmt → ℕ
leaf_own_ops (PlainStmt.Call action index args) = exprs_ops args
leaf_own_ops statement = plain_ops statement

-- and a piece of work
abbrev pub own_reads : PlainWork → List Location
own_reads (Plain statement) = leaf_own_reads statement
own_reads (Call statement) = leaf_own_reads statement
own_reads (Apply table) = []
own_reads (Pred number condition) = expr_reads condition

abbrev pub own_assigns : Bool → PlainWork → List Location
own_assigns own (Plain statement) = plain_assigns statement
own_assigns own (Call statement) = plain_assigns statement
own_assigns own (Apply table) = []
own_assigns own (Pred number condition) = location.Pred number own ∷ []

abbrev pub own_ops : PlainWork → ℕ
own_ops (Plain statement) = leaf_own_ops statement
own_ops (Call statement) = leaf_own_ops statement
own_ops (Apply table) = 0
own_ops (Pred number condition) = 1 + operators_in condition

-- what a piece reads, may assign and has of operators in all, where what it calls reads, may assign and has these
abbrev pub reads_with : PieceAround → List Location → List Location
reads_with at more = each_once (lits_read at.piece.lits ++ (exprs_read at.piece.conds ++ (own_reads at.piece.work ++ more)))

abbrev pub writes_with : Bool → PlainWork → List Location → List Location
writes_with own work more = each_once (own_assigns own work ++ more)

abbrev pub ops_with : PieceAround → ℕ → ℕ
ops_with at more = guard_ops at.piece.lits at.piece.conds + (own_ops at.piece.work + more)

-- the action or the table that a piece calls
pub data Called : Type 0 where
  Nothing : Called
  OfAction : Name → Called
  OfTable : Name → Called

abbrev pub leaf_called : PlainStmt → Called
leaf_called (PlainStmt.Call action index args) = OfAction action
leaf_called (PlainStmt.Apply table) = OfTable table
leaf_called _ = Nothing

abbrev pub called : PlainWork → Called
called (Plain statement) = leaf_called statement
called (Call statement) = leaf_called statement
called (Apply table) = OfTable table
called (Pred number condition) = Nothing

abbrev pub table_called : List PlainDecl → Called → Option PlainTable
table_called decls Nothing = None
table_called decls (OfAction name) = None
table_called decls (OfTable name) = table_of decls name

abbrev pub actions_in : List PlainDecl → Option PlainTable → List (Option PlainAction)
actions_in decls None = []
actions_in decls (Some table) = map (action_of decls) table.actions

abbrev pub actions_called : List PlainDecl → Called → List (Option PlainAction)
actions_called decls Nothing = []
actions_called decls (OfAction name) = action_of decls name ∷ []
actions_called decls (OfTable name) = actions_in decls (table_of decls name)
