-- The rule that is broken first by what stands at one place within a declaration; this project's own.
use Rattle.std.specs.Prelude.{ℕ, Bool, List, [], ◌∷◌, ◌++◌, map, Option, Some, flat_map}
use Rattle.std.specs.Option.{option_copied}
use denote.Bor.{Bor}
use Rattle.elastic_ast.specs.declared.rule.Rule.{Rule}
use Rattle.elastic_ast.specs.declared.statements.Amount.{Amount}
use Rattle.elastic_ast.specs.declared.statements.Expr.{Expr}
use Rattle.elastic_ast.specs.declared.statements.Lval.{Lval}
use Rattle.elastic_ast.specs.declared.statements.RegRef.{RegRef}
use Rattle.elastic_ast.specs.declared.statements.Stmt.{Stmt}
use Rattle.elastic_ast.specs.declared.declarations.Decl.{Decl}
use Rattle.elastic_ast.specs.declared.declarations.Field.{Field}
use Rattle.elastic_ast.specs.declared.declarations.Local.{Local}
use Rattle.elastic_ast.specs.declared.declarations.Param.{Param}
use Rattle.elastic_ast.specs.OperatorSorts as operators
use Rattle.elastic_ast.specs.Tree.{Name}
use Rattle.elastic_ast.specs.Seen.{seen_expr, seen_exprs, seen_stmt, seen_stmts}
use Rattle.elastic_ast.specs.Typing.Scope.{Scope}
use Rattle.elastic_ast.specs.Typing.Demand.{Demand, Number, HasWidth, Alike, Cut, Indexed, first_broken}
use Rattle.elastic_ast.specs.Typing.AskedOfNames.{asks_amount}
use Rattle.elastic_ast.specs.Typing.AskedInExpressions.{asks_sort, index_fits, asks_index, asks_element, asks_expr, asks_bits, asks_truth}
use Rattle.elastic_ast.specs.Typing.AskedInStatements.{asks_register_of, asks_args, is_called, action_among, asks_call, asks_loop, asks_read, asks_write, asks_stmt, asks_stmts}
use Rattle.expr_types.specs.declared.place.Place.{Place}
use Rattle.expr_types.specs.declared.types.Ty.{Ty}
use Rattle.program_names.specs.LocalParts.{seen_locals}
use Rattle.expr_types.specs.Scoped.{before_of}
use Rattle.expr_types.specs.Agreeing.{name_now}
use Rattle.expr_types.specs.Placed.{seen_type, scope_at}

-- of each thing in order
abbrev pub each_breaks : {X : Type 0} → Bool → (X → List Demand) → List X → Option Rule
each_breaks allow asks things = first_broken allow (flat_map asks things)

-- by the types of operands, of what is cut, and of what stands where bits of a width are wanted
abbrev pub sort_breaks : Bool → operators.Sort → Ty → Ty → Option Rule
sort_breaks allow sort left right = first_broken allow (asks_sort sort (seen_type left) (seen_type right))

abbrev pub wide_breaks : Bool → Ty → Option Rule
wide_breaks allow of = first_broken allow (Number (seen_type of) ∷ HasWidth (seen_type of) ∷ [])

abbrev pub slice_breaks : Bool → ℕ → ℕ → Ty → Option Rule
slice_breaks allow high low of = first_broken allow (Number (seen_type of) ∷ HasWidth (seen_type of) ∷ Cut high low (seen_type of) ∷ [])

abbrev pub own_breaks : Bool → Ty → Ty → Option Rule
own_breaks allow own width = first_broken allow (Number (seen_type own) ∷ Alike (seen_type own) (seen_type width) ∷ [])

abbrev pub alike_breaks : Bool → Ty → Ty → Option Rule
alike_breaks allow left right = first_broken allow (Alike (seen_type left) (seen_type right) ∷ [])

-- by numbers of cells, by indices, and by elements of the metadata
abbrev pub amount_breaks : Bool → List Decl × ℕ → Amount → Option Rule
amount_breaks allow place amount = first_broken allow (asks_amount (before_of place) amount)

abbrev pub index_breaks : Bool → Place → Option (Bor Name) → Option Rule
index_breaks allow place index = first_broken allow (asks_index (scope_at place) (option_copied index))

abbrev pub has_its_index : Place → Option (Bor Name) → Option (Bor Name) → Bool
has_its_index place size index = index_fits (scope_at place) (option_copied size) (option_copied index)

abbrev pub element_breaks : Bool → Place → Option (Bor Field) → Option (Bor Name) → Option Rule
element_breaks allow place field index = first_broken allow (asks_element (scope_at place) (option_copied field) (option_copied index))

-- by an expression: at a place that gives it a width, where bits of a width are wanted, and where a boolean is
abbrev pub expr_breaks : Bool → Place → Expr → Ty → Option Rule
expr_breaks allow place expr giver = first_broken allow (asks_expr (scope_at place) (seen_expr expr) (seen_type giver))

abbrev pub bits_break : Bool → Place → Expr → Ty → Option Rule
bits_break allow place expr width = first_broken allow (asks_bits (scope_at place) (seen_expr expr) (seen_type width))

abbrev pub truth_breaks : Bool → Place → Expr → Option Rule
truth_breaks allow place expr = first_broken allow (asks_truth (scope_at place) (seen_expr expr))

-- by the call of an action that has such an index and such parameters, and by its arguments
abbrev pub args_break : Bool → Place → List Expr → List Param → Option Rule
args_break allow place args params = first_broken allow (asks_args (scope_at place) (seen_exprs args) params)

abbrev pub may_be_called : Place → Option (Bor Name) → Option (Bor Name) → Bool
may_be_called place own given = is_called (scope_at place) (option_copied own) (option_copied given)

abbrev pub asks_called : Place → Option Name → Option Name → List Expr → List Param → List Demand
asks_called place own given args params =
    Indexed (is_called (scope_at place) own given) ∷ (asks_index (scope_at place) given ++ asks_args (scope_at place) (seen_exprs args) params)

abbrev pub called_breaks : Bool → Place → Option (Bor Name) → Option (Bor Name) → List Expr → List Param → Option Rule
called_breaks allow place own given args params = first_broken allow (asks_called place (option_copied own) (option_copied given) args params)

abbrev pub call_breaks : Bool → Place → List Local → Name → Option (Bor Name) → List Expr → Option Rule
call_breaks allow place locals action index args =
    first_broken allow (asks_call (scope_at place) (action_among (seen_locals locals) action) (option_copied index) (seen_exprs args))

-- by statements and their parts
abbrev pub register_breaks : Bool → Place → RegRef → Option Rule
register_breaks allow place register = first_broken allow (asks_register_of (scope_at place) register)

abbrev pub loop_breaks : Bool → Place → Name → Name → Option Rule
loop_breaks allow place index size = first_broken allow (asks_loop (scope_at place) index size)

-- the scope of a loop's body
abbrev pub looped_scope : Place → Name → List (Bor Name) → Scope
looped_scope place index sizes = record (scope_at place) { index = Some index; sizes = map name_now sizes }

abbrev pub read_breaks : Bool → Place → Lval → RegRef → Expr → Option Rule
read_breaks allow place to register cell = first_broken allow (asks_read (scope_at place) to register (seen_expr cell))

abbrev pub write_breaks : Bool → Place → RegRef → Expr → Expr → Option Rule
write_breaks allow place register cell value = first_broken allow (asks_write (scope_at place) register (seen_expr cell) (seen_expr value))

abbrev pub stmt_breaks : Bool → Place → List Local → Stmt → Option Rule
stmt_breaks allow place locals stmt = first_broken allow (asks_stmt (scope_at place) (seen_locals locals) (seen_stmt stmt))

abbrev pub stmts_break : Bool → Place → List Local → List Stmt → Option Rule
stmts_break allow place locals stmts = first_broken allow (asks_stmts (scope_at place) (seen_locals locals) (seen_stmts stmts))
