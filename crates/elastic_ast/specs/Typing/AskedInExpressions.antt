-- What an expression asks where it stands; this project's own, narrower than P4-16.
use Rattle.std.specs.Prelude.{ℕ, ◌+◌, ◌==◌, Bool, true, false, ◌&&◌, List, [], ◌∷◌, ◌++◌, Option, Some, None, is_some, if◌then◌else◌}
use Rattle.std.specs.List.{list_all}
use Rattle.elastic_ast.specs.declared.statements.Amount.{Amount}
use Rattle.elastic_ast.specs.declared.statements.Amount.TheVariants as amount
use Rattle.elastic_ast.specs.declared.statements.Lval.{Lval}
use Rattle.elastic_ast.specs.declared.statements.Lval.TheVariants as lval
use Rattle.elastic_ast.specs.declared.declarations.Field.{Field}
use Rattle.elastic_ast.specs.Tree.{Name, PlainExpr}
use Rattle.elastic_ast.specs.Typing.Scope.{same, Scope, is_index}
use Rattle.elastic_ast.specs.Typing.LookUps.{declared_constant, is_member, header_fields, meta_field, width_among, std_width}
use Rattle.elastic_ast.specs.OperatorSorts.{operator_of, Sort, Logic, Comparison, Shift, Joining, Arithmetic, sort_of}
use Rattle.elastic_ast.specs.Typing.Types.{Ty, Bits, Bare, Names, bits_of, taking, left_giver, right_giver, param_width, type_of}
use Rattle.elastic_ast.specs.Typing.Demand.{Demand, Known, Wide, Alike, HasWidth, Fits, Boolean, Number, Indexed, Cut}
use Rattle.elastic_ast.specs.Typing.AskedOfNames.{asks_amount}

abbrev pub names_at : Scope → Names
names_at scope = record { before = scope.before; params = scope.params; index = scope.index }

-- what stands in brackets is the index around
abbrev pub asks_index : Scope → Option Name → List Demand
asks_index scope None = []
asks_index scope (Some index) = Known (is_index scope index) ∷ []

-- An array of a size stands with the index around, and each loop that this may be of is over the size. What has no size
-- stands without an index.
abbrev pub index_fits : Scope → Option Name → Option Name → Bool
index_fits scope None None = true
index_fits scope None (Some index) = false
index_fits scope (Some size) None = false
index_fits scope (Some size) (Some index) = is_index scope index && list_all (same size) scope.sizes

-- a field of the metadata, or an element of one that is an array
abbrev pub asks_element : Scope → Option Field → Option Name → List Demand
asks_element scope None index = Known false ∷ asks_index scope index
asks_element scope (Some field) index = Indexed (index_fits scope field.size index) ∷ asks_index scope index

-- what may be assigned to
abbrev pub asks_lval : Scope → Lval → List Demand
asks_lval scope (lval.Header header field) = Known (is_some (width_among (header_fields scope.before header) field)) ∷ []
asks_lval scope (lval.Meta name index) = asks_element scope (meta_field scope.before name) index
asks_lval scope (lval.Std name) = Known (is_some (std_width name)) ∷ []

-- A name in an expression is a parameter or a constant. The index around hides a constant, and may not stand there.
abbrev pub asks_named : Scope → Name → List Demand
asks_named scope name =
    if is_some (param_width scope.params name) then [] else
    (if is_index scope name then Indexed false ∷ [] else Known (is_some (declared_constant scope.before name)) ∷ [])

-- a number has its own width, or that of its place
abbrev pub asks_number : Option ℕ → ℕ → Ty → List Demand
asks_number (Some width) number giver = Wide width ∷ Fits number (bits_of width) ∷ []
asks_number None number giver = Fits number giver ∷ []

-- the first argument of `hash`: a number, or the index around
abbrev pub asks_count : Scope → Amount → List Demand
asks_count scope (amount.Num number) = []
asks_count scope (amount.Named index) = Known (is_index scope index) ∷ []

-- the place of a unary operator gives its width on to the operand of `~`
abbrev pub turned_giver : Sort → Ty → Ty
turned_giver Logic giver = Bare
turned_giver _ giver = giver

-- `!` is of a boolean, `~` of bits
abbrev pub asks_turned : Sort → Ty → List Demand
asks_turned Logic of = Boolean of ∷ []
asks_turned _ of = Number of ∷ []

-- two widths side by side are a width
abbrev pub asks_sum : Ty → Ty → List Demand
asks_sum (Bits high) (Bits low) = Wide (high + low) ∷ []
asks_sum high low = []

-- what an operator asks of its operands
abbrev pub asks_sort : Sort → Ty → Ty → List Demand
asks_sort Logic left right = Boolean left ∷ Boolean right ∷ []
asks_sort Comparison left right = Number left ∷ Number right ∷ HasWidth (taking left right) ∷ Alike left right ∷ []
asks_sort Arithmetic left right = Number left ∷ Number right ∷ HasWidth (taking left right) ∷ Alike left right ∷ []
asks_sort Shift left right = Number left ∷ Number right ∷ HasWidth left ∷ []
asks_sort Joining left right = Number left ∷ Number right ∷ HasWidth left ∷ HasWidth right ∷ asks_sum left right

-- a cast to one bit takes a boolean too
abbrev pub asks_cast : ℕ → Ty → List Demand
asks_cast width of = if width == 1 then [] else Number of ∷ []

-- what an expression asks at a place that gives it a width: its operands first, each at the place that it gives them, and the
-- width of a cast before its operand
abbrev pub asks_expr : Scope → PlainExpr → Ty → List Demand
asks_expr scope (PlainExpr.Num width number) giver = asks_number width number giver
asks_expr scope (PlainExpr.Truth value) giver = []
asks_expr scope (PlainExpr.Named name) giver = asks_named scope name
asks_expr scope (PlainExpr.At place) giver = asks_lval scope place
asks_expr scope (PlainExpr.IsValid header) giver = Known (is_member scope.before header) ∷ []
asks_expr scope (PlainExpr.Unary op of) giver =
    asks_expr scope of (turned_giver (sort_of (operator_of op)) giver) ++ asks_turned (sort_of (operator_of op)) (type_of (names_at scope) of)
asks_expr scope (PlainExpr.Binary op left right) giver =
    asks_expr scope left (left_giver (sort_of (operator_of op)) (type_of (names_at scope) left) (type_of (names_at scope) right))
    ++ (asks_expr scope right (right_giver (sort_of (operator_of op)) (type_of (names_at scope) left) (type_of (names_at scope) right))
    ++ asks_sort (sort_of (operator_of op)) (type_of (names_at scope) left) (type_of (names_at scope) right))
asks_expr scope (PlainExpr.Cast width of) giver = Wide width ∷ (asks_expr scope of (bits_of width) ++ asks_cast width (type_of (names_at scope) of))
asks_expr scope (PlainExpr.Slice of high low) giver =
    asks_expr scope of Bare
    ++ (Number (type_of (names_at scope) of) ∷ HasWidth (type_of (names_at scope) of) ∷ Cut high low (type_of (names_at scope) of) ∷ [])
asks_expr scope (PlainExpr.Hash k of modulus) giver =
    asks_expr scope of Bare
    ++ (asks_count scope k ++ (asks_amount scope.before modulus ++ (Number (type_of (names_at scope) of) ∷ HasWidth (type_of (names_at scope) of) ∷ [])))

-- an expression where bits of a width are wanted
abbrev pub asks_bits : Scope → PlainExpr → Ty → List Demand
asks_bits scope expression width =
    asks_expr scope expression width ++ (Number (type_of (names_at scope) expression) ∷ Alike (type_of (names_at scope) expression) width ∷ [])

-- an expression where a boolean is wanted
abbrev pub asks_truth : Scope → PlainExpr → List Demand
asks_truth scope expression = asks_expr scope expression Bare ++ (Boolean (type_of (names_at scope) expression) ∷ [])
