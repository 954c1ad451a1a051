-- Which locations statements, actions, tables and pieces of work may read and write, this project's own: those that their
-- text names, whatever the memory.
use Rattle.std.specs.Prelude.{Bool, true, false, not, ◌&&◌, ◌==◌, List, [], ◌∷◌, ◌++◌, map, flat_map, filter, is_some, Option, Some, None}
use Rattle.std.specs.List.{list_any}
use Rattle.elastic_ast.specs.declared.statements.Lval.{Lval}
use Rattle.elastic_ast.specs.declared.statements.Lval.TheVariants as lval
use Rattle.elastic_ast.specs.declared.statements.RegRef.{RegRef}
use Rattle.elastic_ast.specs.declared.flat.Lit.{Lit}
use Rattle.elastic_ast.specs.declared.flat.Location.{Location}
use Rattle.elastic_ast.specs.declared.flat.Location.TheVariants as location
use Rattle.elastic_ast.specs.declared.declarations.Key.{Key}
use Rattle.elastic_ast.specs.Tree.{Name, PlainDecl, PlainExpr, PlainStmt, PlainStmts, PlainKeyset, PlainEntry, PlainAction, PlainTable}
use Rattle.elastic_ast.specs.Typing.Scope.{same}
use Rattle.elastic_ast.specs.Typing.LookUps.{action_of, table_of}
use Rattle.elastic_ast.specs.Units.PlainUnits.{PlainWork, Plain, Call, Apply, Pred}

-- what an assignment or an expression names: what has an index is own
abbrev pub location_of : Lval → Location
location_of (lval.Header header field) = location.Header header field
location_of (lval.Meta name index) = location.Meta name (is_some index)
location_of (lval.Std name) = location.Std name

abbrev pub register_location : RegRef → Location
register_location register = location.Reg register.name (is_some register.index)

abbrev pub expr_reads : PlainExpr → List Location
expr_reads (PlainExpr.Num width number) = []
expr_reads (PlainExpr.Truth truth) = []
expr_reads (PlainExpr.Named name) = []
expr_reads (PlainExpr.At place) = location_of place ∷ []
expr_reads (PlainExpr.IsValid header) = location.Valid header ∷ []
expr_reads (PlainExpr.Unary op of) = expr_reads of
expr_reads (PlainExpr.Binary op left right) = expr_reads left ++ expr_reads right
expr_reads (PlainExpr.Cast width of) = expr_reads of
expr_reads (PlainExpr.Slice of high low) = expr_reads of
expr_reads (PlainExpr.Hash k of modulus) = expr_reads of

abbrev pub exprs_read : List PlainExpr → List Location
exprs_read expressions = flat_map expr_reads expressions

-- what a plain statement reads: a register that it names counts as read
abbrev pub plain_reads : PlainStmt → List Location
plain_reads (PlainStmt.Assign to number) = expr_reads number
plain_reads (PlainStmt.Read to register cell) = expr_reads cell ++ register_location register ∷ []
plain_reads (PlainStmt.Write register cell number) = expr_reads cell ++ (expr_reads number ++ register_location register ∷ [])
plain_reads _ = []

-- what a plain statement may assign: a register that it names counts as written
abbrev pub plain_assigns : PlainStmt → List Location
plain_assigns (PlainStmt.Assign to number) = location_of to ∷ []
plain_assigns (PlainStmt.Read to register cell) = location_of to ∷ register_location register ∷ []
plain_assigns (PlainStmt.Write register cell number) = register_location register ∷ []
plain_assigns (PlainStmt.Valid header on) = location.Valid header ∷ []
plain_assigns _ = []

abbrev pub body_reads : PlainStmts → List Location
body_reads PlainStmts.nil = []
body_reads (PlainStmts.cons first rest) = plain_reads first ++ body_reads rest

abbrev pub body_assigns : PlainStmts → List Location
body_assigns PlainStmts.nil = []
body_assigns (PlainStmts.cons first rest) = plain_assigns first ++ body_assigns rest

-- an action that isn't declared, as `NoAction`, reads and assigns nothing
abbrev pub action_reads : Option PlainAction → List Location
action_reads (Some action) = body_reads action.body
action_reads None = []

abbrev pub action_assigns : Option PlainAction → List Location
action_assigns (Some action) = body_assigns action.body
action_assigns None = []

abbrev pub set_reads : PlainKeyset → List Location
set_reads (PlainKeyset.One number) = expr_reads number
set_reads (PlainKeyset.Masked number mask) = expr_reads number ++ expr_reads mask
set_reads PlainKeyset.Any = []

abbrev pub sets_read : List PlainKeyset → List Location
sets_read sets = flat_map set_reads sets

abbrev pub entries_read : List PlainEntry → List Location
entries_read entries = flat_map (λ entry. sets_read entry.keys ++ exprs_read entry.args) entries

abbrev pub fallback_reads : Option (Name × List PlainExpr) → List Location
fallback_reads (Some default) = exprs_read default.1
fallback_reads None = []

abbrev pub keys_read : List Key → List Location
keys_read keys = map (λ key. location_of key.field) keys

-- what each of these actions reads
abbrev pub actions_read : List PlainDecl → List Name → List Location
actions_read decls actions = flat_map (λ action. action_reads (action_of decls action)) actions

abbrev pub actions_assign : List PlainDecl → List Name → List Location
actions_assign decls actions = flat_map (λ action. action_assigns (action_of decls action)) actions

-- a table reads its keys, what its sets and arguments name, and what its actions read
abbrev pub table_reads : List PlainDecl → Option PlainTable → List Location
table_reads decls (Some table) =
    keys_read table.keys ++ ((entries_read table.entries ++ fallback_reads table.fallback) ++ actions_read decls table.actions)
table_reads decls None = []

abbrev pub table_assigns : List PlainDecl → Option PlainTable → List Location
table_assigns decls (Some table) = actions_assign decls table.actions
table_assigns decls None = []

-- what a statement without statements in it reads: a call reads its arguments and what its action reads
abbrev pub leaf_reads : List PlainDecl → PlainStmt → List Location
leaf_reads decls (PlainStmt.Call action index args) = exprs_read args ++ action_reads (action_of decls action)
leaf_reads decls (PlainStmt.Apply table) = table_reads decls (table_of decls table)
leaf_reads decls statement = plain_reads statement

abbrev pub leaf_assigns : List PlainDecl → PlainStmt → List Location
leaf_assigns decls (PlainStmt.Call action index args) = action_assigns (action_of decls action)
leaf_assigns decls (PlainStmt.Apply table) = table_assigns decls (table_of decls table)
leaf_assigns decls statement = plain_assigns statement

abbrev pub work_reads : List PlainDecl → PlainWork → List Location
work_reads decls (Plain statement) = leaf_reads decls statement
work_reads decls (Call statement) = leaf_reads decls statement
work_reads decls (Apply table) = leaf_reads decls (PlainStmt.Apply table)
work_reads decls (Pred number condition) = expr_reads condition

-- in a loop a predicate is own
abbrev pub work_assigns : List PlainDecl → Bool → PlainWork → List Location
work_assigns decls own (Plain statement) = leaf_assigns decls statement
work_assigns decls own (Call statement) = leaf_assigns decls statement
work_assigns decls own (Apply table) = leaf_assigns decls (PlainStmt.Apply table)
work_assigns decls own (Pred number condition) = location.Pred number own ∷ []

abbrev pub lits_read : List Lit → List Location
lits_read lits = map (λ lit. location.Pred lit.number lit.own) lits

abbrev pub same_flag : Bool → Bool → Bool
same_flag true true = true
same_flag false false = true
same_flag true false = false
same_flag false true = false

abbrev pub is_own : Location → Bool
is_own (location.Meta name own) = own
is_own (location.Pred number own) = own
is_own (location.Reg name own) = own
is_own _ = false

-- the same field, validity bit, predicate, register or array
abbrev pub one_thing : Location → Location → Bool
one_thing (location.Header header field) (location.Header header' field') = same header header' && same field field'
one_thing (location.Valid header) (location.Valid header') = same header header'
one_thing (location.Meta name own) (location.Meta name' own') = same name name'
one_thing (location.Std name) (location.Std name') = same name name'
one_thing (location.Pred number own) (location.Pred number' own') = number == number'
one_thing (location.Reg name own) (location.Reg name' own') = same name name'
one_thing _ _ = false

-- one thing, own in both or in neither
abbrev pub same_location : Location → Location → Bool
same_location one other = one_thing one other && same_flag (is_own one) (is_own other)

-- a location is one of these
abbrev pub is_among : List Location → Location → Bool
is_among locations at = list_any (same_location at) locations

-- each location once, where it stands first
abbrev pub each_once : List Location → List Location
each_once [] = []
each_once (first ∷ rest) = first ∷ filter (λ other. not (same_location first other)) (each_once rest)

-- what the tests and the work read, in this order, each location once
abbrev pub piece_reads : List PlainDecl → List Lit → List PlainExpr → PlainWork → List Location
piece_reads decls lits conds work = each_once (lits_read lits ++ (exprs_read conds ++ work_reads decls work))

-- what the work may assign, each location once
abbrev pub piece_writes : List PlainDecl → Bool → PlainWork → List Location
piece_writes decls own work = each_once (work_assigns decls own work)
