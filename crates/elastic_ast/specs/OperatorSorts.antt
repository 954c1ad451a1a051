-- The operators by their codes, the sort of each, which says what operands it takes and what it gives, and how many
-- operators an expression has (the operators are those of P4-16 language specification 1.2.3, section 8; the codes are this
-- project's own).
use Rattle.std.specs.Prelude.{◌≡◌, ℕ, ◌+◌, List, [], ◌∷◌, unwrap_or, slice_get}
use Rattle.elastic_ast.specs.Tree.{PlainExpr}

pub data Operator : Type 0 where
  Or : Operator
  And : Operator
  Equal : Operator
  Differ : Operator
  Less : Operator
  AtMost : Operator
  Greater : Operator
  AtLeast : Operator
  BitOr : Operator
  BitXor : Operator
  BitAnd : Operator
  ShiftUp : Operator
  ShiftDown : Operator
  Plus : Operator
  Minus : Operator
  Join : Operator
  Times : Operator
  Turn : Operator  -- `~`: each bit is turned
  Negate : Operator  -- `!`: a boolean is turned
  NoOperator : Operator

-- in the order of their codes, from 0
abbrev pub operators : List Operator
operators =
    Or ∷ And ∷ Equal ∷ Differ ∷ Less ∷ AtMost ∷ Greater ∷ AtLeast ∷ BitOr ∷ BitXor ∷ BitAnd ∷ ShiftUp ∷ ShiftDown ∷ Plus ∷
    Minus ∷ Join ∷ Times ∷ Turn ∷ Negate ∷ []

abbrev pub operator_of : ℕ → Operator
operator_of code = unwrap_or (slice_get operators code) NoOperator

-- the code of an operator
abbrev pub operator_code : Operator → ℕ
operator_code Or = 0
operator_code And = 1
operator_code Equal = 2
operator_code Differ = 3
operator_code Less = 4
operator_code AtMost = 5
operator_code Greater = 6
operator_code AtLeast = 7
operator_code BitOr = 8
operator_code BitXor = 9
operator_code BitAnd = 10
operator_code ShiftUp = 11
operator_code ShiftDown = 12
operator_code Plus = 13
operator_code Minus = 14
operator_code Join = 15
operator_code Times = 16
operator_code Turn = 17
operator_code Negate = 18
operator_code NoOperator = 19

-- the operator of its code is the operator again
abbrev pub CodesTell : Type 0
CodesTell = (operator : Operator) → operator_of (operator_code operator) ≡ operator

-- an expression, by the name of its operator
abbrev pub unary : Operator → PlainExpr → PlainExpr
unary operator of = PlainExpr.Unary (operator_code operator) of

abbrev pub binary : Operator → PlainExpr → PlainExpr → PlainExpr
binary operator left right = PlainExpr.Binary (operator_code operator) left right

-- booleans to a boolean; bits to a boolean; bits moved by an amount; bits set side by side; bits of one width to bits of it
pub data Sort : Type 0 where
  Logic : Sort
  Comparison : Sort
  Shift : Sort
  Joining : Sort
  Arithmetic : Sort

abbrev pub sort_of : Operator → Sort
sort_of Or = Logic
sort_of And = Logic
sort_of Negate = Logic
sort_of Equal = Comparison
sort_of Differ = Comparison
sort_of Less = Comparison
sort_of AtMost = Comparison
sort_of Greater = Comparison
sort_of AtLeast = Comparison
sort_of ShiftUp = Shift
sort_of ShiftDown = Shift
sort_of Join = Joining
sort_of BitOr = Arithmetic
sort_of BitXor = Arithmetic
sort_of BitAnd = Arithmetic
sort_of Plus = Arithmetic
sort_of Minus = Arithmetic
sort_of Times = Arithmetic
sort_of Turn = Arithmetic
sort_of NoOperator = Arithmetic

-- how many operators an expression has: unary and binary signs, casts, slices, `hash` and `isValid`
unfoldable pub operators_in : PlainExpr → ℕ
operators_in (PlainExpr.Num width value) = 0
operators_in (PlainExpr.Truth truth) = 0
operators_in (PlainExpr.Named name) = 0
operators_in (PlainExpr.At lval) = 0
operators_in (PlainExpr.IsValid header) = 1
operators_in (PlainExpr.Unary op of) = operators_in of + 1
operators_in (PlainExpr.Binary op left right) = operators_in left + operators_in right + 1
operators_in (PlainExpr.Cast width of) = operators_in of + 1
operators_in (PlainExpr.Slice of high low) = operators_in of + 1
operators_in (PlainExpr.Hash number of modulus) = operators_in of + 1
