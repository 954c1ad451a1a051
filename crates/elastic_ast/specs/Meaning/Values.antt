-- The value of an expression, a whole number; true is 1 and false is 0 (P4-16 language specification 1.2.3, section 8; the
-- hash and the widths of bare numbers are this project's own).
use Rattle.std.specs.Prelude.{ℕ, ◌==◌, nat_lt, nat_le, Bool, true, false, not, ◌&&◌, ◌||◌, List, zip, find, bit_and, bit_or, bit_xor, Option, None, option_map, unwrap_or, if◌then◌else◌}
use Rattle.elastic_ast.specs.declared.statements.Amount.{Amount}
use Rattle.elastic_ast.specs.declared.statements.Amount.TheVariants as amount
use Rattle.elastic_ast.specs.declared.declarations.Param.{Param}
use Rattle.elx_bits.specs.Words as words
use Rattle.elx_bits.specs.Hash.{hashed}
use Rattle.elastic_ast.specs.Tree.{Name, PlainDecl, PlainExpr}
use Rattle.elastic_ast.specs.Typing.Scope.{same, or_else}
use Rattle.elastic_ast.specs.Sizes.SizeSums.{symbols_of, size_of}
use Rattle.elastic_ast.specs.Containers.LocationPlaces.{place_of_lval, valid_place}
use Rattle.elastic_ast.specs.Typing.LookUps.{declared_constant}
use Rattle.elastic_ast.specs.OperatorSorts.{Operator, Or, And, Equal, Differ, Less, AtMost, Greater, AtLeast, BitOr, BitXor, BitAnd, ShiftUp, ShiftDown, Plus, Minus, Join, Times, Turn, Negate, NoOperator, operator_of, sort_of}
use Rattle.elastic_ast.specs.Typing.Types.{Ty, Bare, Names, bits_of, outcome, left_giver, right_giver, width_of_type, type_of, type_at}
use Rattle.elastic_ast.specs.Meaning.Memory.{Memory, At}

-- what stays the same while an expression is worked out: the declarations, a size for each symbol, the parameters of the
-- action around it with their arguments, and the index of the loop or action around it
pub record Setting : Type 0 where
  pub decls : List PlainDecl
  pub sizes : List ℕ
  pub params : List Param
  pub args : List ℕ
  pub index : Option ℕ

-- a typed expression doesn't name the index around, so that it hides nothing
abbrev pub names_of : Setting → Names
names_of setting = record { before = setting.decls; params = setting.params; index = None }

abbrev pub bit : Bool → ℕ
bit true = 1
bit false = 0

abbrev pub is_true : ℕ → Bool
is_true value = value == 1

abbrev pub size_at : Setting → Name → ℕ
size_at setting symbol = size_of (symbols_of setting.decls) setting.sizes symbol

-- a number, or the size of a symbol
abbrev pub amount_value : Setting → Amount → ℕ
amount_value setting (amount.Num number) = number
amount_value setting (amount.Named symbol) = size_at setting symbol

-- a number, or the index around it
abbrev pub count_value : Setting → Amount → ℕ
count_value setting (amount.Num number) = number
count_value setting (amount.Named index) = unwrap_or setting.index 0

abbrev pub argument_of : Setting → Name → Option ℕ
argument_of setting name = option_map (λ given. given.1) (find (λ given. same name (given.0).name) (zip setting.params setting.args))

abbrev pub constant_value : Setting → Name → Option ℕ
constant_value setting name = option_map (λ constant. constant.1) (declared_constant setting.decls name)

-- the argument of a parameter, or else a constant
abbrev pub named_value : Setting → Name → ℕ
named_value setting name = unwrap_or (or_else (argument_of setting name) (constant_value setting name)) 0

-- an operator at numbers; the first width is that of its outcome, the second that of its right operand. A shift by the width
-- or more gives 0, which is tested first, so that no great power of two is computed.
abbrev pub apply : Operator → ℕ → ℕ → ℕ → ℕ → ℕ
apply Or width low a b = bit (is_true a || is_true b)
apply And width low a b = bit (is_true a && is_true b)
apply Equal width low a b = bit (a == b)
apply Differ width low a b = bit (not (a == b))
apply Less width low a b = bit (nat_lt a b)
apply AtMost width low a b = bit (nat_le a b)
apply Greater width low a b = bit (nat_lt b a)
apply AtLeast width low a b = bit (nat_le b a)
apply BitOr width low a b = bit_or a b
apply BitXor width low a b = bit_xor a b
apply BitAnd width low a b = bit_and a b
apply ShiftUp width low a b = if nat_le width b then 0 else words.shl width a b
apply ShiftDown width low a b = if nat_le width b then 0 else words.shr a b
apply Plus width low a b = words.add width a b
apply Minus width low a b = words.sub width a b
apply Join width low a b = words.cat low a b
apply Times width low a b = words.mul width a b
apply Turn width low a b = 0
apply Negate width low a b = 0
apply NoOperator width low a b = 0

-- a unary operator at a number of a width
abbrev pub turn : Operator → ℕ → ℕ → ℕ
turn Turn width a = words.not width a
turn Negate width a = bit (not (is_true a))
turn _ width a = 0

-- the value of an expression at a place that gives a width to what has none
abbrev pub value : Setting → Memory → PlainExpr → Ty → ℕ
value setting memory (PlainExpr.Num width number) giver = number
value setting memory (PlainExpr.Truth truth) giver = bit truth
value setting memory (PlainExpr.Named name) giver = named_value setting name
value setting memory (PlainExpr.At place) giver = (memory (At (place_of_lval place setting.index))).1
value setting memory (PlainExpr.IsValid header) giver = (memory (At (valid_place header))).1
value setting memory (PlainExpr.Unary op of) giver =
    turn (operator_of op) (width_of_type (type_at (names_of setting) of giver)) (value setting memory of giver)
value setting memory (PlainExpr.Binary op left right) giver =
    let operator = operator_of op in
    let sort = sort_of operator in
    let a = type_of (names_of setting) left in
    let b = type_of (names_of setting) right in
    apply operator (width_of_type (outcome sort a b)) (width_of_type b)
    (value setting memory left (left_giver sort a b))
    (value setting memory right (right_giver sort a b))
value setting memory (PlainExpr.Cast width of) giver = words.cast width (value setting memory of (bits_of width))
value setting memory (PlainExpr.Slice of high low) giver = words.slice high low (value setting memory of Bare)
value setting memory (PlainExpr.Hash k of modulus) giver =
    hashed (count_value setting k) (value setting memory of Bare) (amount_value setting modulus)

-- a condition is true
abbrev pub holds : Setting → Memory → PlainExpr → Bool
holds setting memory condition = is_true (value setting memory condition Bare)
