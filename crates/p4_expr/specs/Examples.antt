-- Texts with their tokens, for examples; this project's own.
use Rattle.std.specs.Prelude.{ℕ, zero, suc, ◌++◌, List, [], ◌∷◌, None, codes, map}
use Rattle.p4_lexer.specs.declared.token.Kind.TheVariants as kind
use Rattle.p4_lexer.specs.declared.token.Token.{Token}
use Rattle.elastic_ast.specs.OperatorSorts.{operators, Equal, BitAnd, ShiftUp, ShiftDown, Plus, Minus, Times, Turn, Negate, operator_code}
use Rattle.elastic_ast.specs.declared.statements.Amount.TheVariants as amount
use Rattle.elastic_ast.specs.Tree.{PlainExpr}
use Rattle.spelling.specs.Words.{Word, words}
use Rattle.p4_expr.specs.Operators.{level_of, text_of}

-- the token of a name, of a sign or a reserved word with this code, and of a number without a width, from one place to another
abbrev pub named : ℕ → ℕ → Token
named at end = record { kind = kind.Name; at = at; end = end }

abbrev pub signed : ℕ → ℕ → ℕ → Token
signed code at end = record { kind = kind.Sign code; at = at; end = end }

abbrev pub reserved : ℕ → ℕ → ℕ → Token
reserved code at end = record { kind = kind.Reserved code; at = at; end = end }

abbrev pub numbered : ℕ → ℕ → ℕ → Token
numbered value at end = record { kind = kind.Number None value; at = at; end = end }

abbrev pub product_in_sum : List Word
product_in_sum = words (codes "a + b * c") (named 0 1 ∷ signed 13 2 3 ∷ named 4 5 ∷ signed 15 6 7 ∷ named 8 9 ∷ [])

abbrev pub two_differences : List Word
two_differences = words (codes "a - b - c") (named 0 1 ∷ signed 14 2 3 ∷ named 4 5 ∷ signed 14 6 7 ∷ named 8 9 ∷ [])

abbrev pub name_in_brackets : List Word
name_in_brackets = words (codes "(a)") (signed 2 0 1 ∷ named 1 2 ∷ signed 3 2 3 ∷ [])

abbrev pub shift : List Word
shift = words (codes "x >> 2") (named 0 1 ∷ signed 7 2 3 ∷ signed 7 3 4 ∷ numbered 2 5 6 ∷ [])

abbrev pub parted_shift : List Word
parted_shift = words (codes "x > > 2") (named 0 1 ∷ signed 7 2 3 ∷ signed 7 4 5 ∷ numbered 2 6 7 ∷ [])

abbrev pub four_bits : List Word
four_bits = words (codes "h[7:4]") (named 0 1 ∷ signed 4 1 2 ∷ numbered 7 2 3 ∷ signed 9 3 4 ∷ numbered 4 4 5 ∷ signed 5 5 6 ∷ [])

abbrev pub byte_of_name : List Word
byte_of_name = words (codes "(bit<8>) x") (signed 2 0 1 ∷ reserved 1 1 4 ∷ signed 6 4 5 ∷ numbered 8 5 6 ∷ signed 7 6 7 ∷ signed 3 7 8 ∷ named 9 10 ∷ [])

abbrev pub two_prefixes : List Word
two_prefixes = words (codes "~ ! x") (signed 19 0 1 ∷ signed 20 2 3 ∷ named 4 5 ∷ [])

abbrev pub shift_of_sum : List Word
shift_of_sum = words (codes "a << b + c") (named 0 1 ∷ signed 28 2 4 ∷ named 5 6 ∷ signed 13 7 8 ∷ named 9 10 ∷ [])

abbrev pub and_in_equation : List Word
and_in_equation = words (codes "a == b & c") (named 0 1 ∷ signed 22 2 4 ∷ named 5 6 ∷ signed 16 7 8 ∷ named 9 10 ∷ [])

abbrev pub turned_slice : List Word
turned_slice = words (codes "~x[3:0]") (signed 19 0 1 ∷ named 1 2 ∷ signed 4 2 3 ∷ numbered 3 3 4 ∷ signed 9 4 5 ∷ numbered 0 5 6 ∷ signed 5 6 7 ∷ [])

abbrev pub byte_of_sum : List Word
byte_of_sum = words (codes "(bit<8>)(a + b)") (signed 2 0 1 ∷ reserved 1 1 4 ∷ signed 6 4 5 ∷ numbered 8 5 6 ∷ signed 7 6 7 ∷ signed 3 7 8 ∷ signed 2 8 9 ∷ named 9 10 ∷ signed 13 11 12 ∷ named 13 14 ∷ signed 3 14 15 ∷ [])

abbrev pub hash_of_name : List Word
hash_of_name = words (codes "hash(i, x, 7)") (named 0 4 ∷ signed 2 4 5 ∷ named 5 6 ∷ signed 10 6 7 ∷ named 8 9 ∷ signed 10 9 10 ∷ numbered 7 11 12 ∷ signed 3 12 13 ∷ [])

abbrev pub validity : List Word
validity = words (codes "hdr.h.isValid()") (named 0 3 ∷ signed 11 3 4 ∷ named 4 5 ∷ signed 11 5 6 ∷ named 6 13 ∷ signed 2 13 14 ∷ signed 3 14 15 ∷ [])

-- The tree of each of them.
abbrev pub tree_of_product_in_sum : PlainExpr
tree_of_product_in_sum = PlainExpr.Binary (operator_code Plus) (PlainExpr.Named (codes "a")) (PlainExpr.Binary (operator_code Times) (PlainExpr.Named (codes "b")) (PlainExpr.Named (codes "c")))

abbrev pub tree_of_two_differences : PlainExpr
tree_of_two_differences = PlainExpr.Binary (operator_code Minus) (PlainExpr.Binary (operator_code Minus) (PlainExpr.Named (codes "a")) (PlainExpr.Named (codes "b"))) (PlainExpr.Named (codes "c"))

abbrev pub tree_of_shift : PlainExpr
tree_of_shift = PlainExpr.Binary (operator_code ShiftDown) (PlainExpr.Named (codes "x")) (PlainExpr.Num None 2)

abbrev pub tree_of_four_bits : PlainExpr
tree_of_four_bits = PlainExpr.Slice (PlainExpr.Named (codes "h")) 7 4

abbrev pub tree_of_byte_of_name : PlainExpr
tree_of_byte_of_name = PlainExpr.Cast 8 (PlainExpr.Named (codes "x"))

abbrev pub tree_of_two_prefixes : PlainExpr
tree_of_two_prefixes = PlainExpr.Unary (operator_code Turn) (PlainExpr.Unary (operator_code Negate) (PlainExpr.Named (codes "x")))

abbrev pub tree_of_shift_of_sum : PlainExpr
tree_of_shift_of_sum = PlainExpr.Binary (operator_code ShiftUp) (PlainExpr.Named (codes "a")) (PlainExpr.Binary (operator_code Plus) (PlainExpr.Named (codes "b")) (PlainExpr.Named (codes "c")))

abbrev pub tree_of_and_in_equation : PlainExpr
tree_of_and_in_equation = PlainExpr.Binary (operator_code Equal) (PlainExpr.Named (codes "a")) (PlainExpr.Binary (operator_code BitAnd) (PlainExpr.Named (codes "b")) (PlainExpr.Named (codes "c")))

abbrev pub tree_of_turned_slice : PlainExpr
tree_of_turned_slice = PlainExpr.Unary (operator_code Turn) (PlainExpr.Slice (PlainExpr.Named (codes "x")) 3 0)

abbrev pub tree_of_byte_of_sum : PlainExpr
tree_of_byte_of_sum = PlainExpr.Cast 8 (PlainExpr.Binary (operator_code Plus) (PlainExpr.Named (codes "a")) (PlainExpr.Named (codes "b")))

abbrev pub tree_of_hash_of_name : PlainExpr
tree_of_hash_of_name = PlainExpr.Hash (amount.Named (codes "i")) (PlainExpr.Named (codes "x")) (amount.Num 7)

abbrev pub tree_of_validity : PlainExpr
tree_of_validity = PlainExpr.IsValid (codes "h")

-- the level and the text of each operator, by code
abbrev pub operators_by_code : List (ℕ × List ℕ)
operators_by_code = map (λ operator. (level_of operator, text_of operator)) operators

-- level 10 is the weakest
abbrev pub levels_and_texts : List (ℕ × List ℕ)
levels_and_texts =
    (10, codes "||") ∷ (9, codes "&&") ∷ (8, codes "==") ∷ (8, codes "!=") ∷ (7, codes "<") ∷
    (7, codes "<=") ∷ (7, codes ">") ∷ (7, codes ">=") ∷ (6, codes "|") ∷ (5, codes "^") ∷
    (4, codes "&") ∷ (3, codes "<<") ∷ (3, codes ">>") ∷ (2, codes "+") ∷ (2, codes "-") ∷
    (2, codes "++") ∷ (1, codes "*") ∷ (0, codes "~") ∷ (0, codes "!") ∷ []

-- a name behind so many prefixes
abbrev pub turned : ℕ → PlainExpr
turned zero = PlainExpr.Named (codes "a")
turned (suc n) = PlainExpr.Unary (operator_code Turn) (turned n)

-- the words of it; where they stand in a text doesn't matter
abbrev pub turned_words : ℕ → List Word
turned_words zero = words (codes "a") (named 0 1 ∷ [])
turned_words (suc n) = words (codes "~") (signed 19 0 1 ∷ []) ++ turned_words n
