-- Texts of statements, declarations and tables with their tokens, for examples; this project's own.
use Rattle.std.specs.Prelude.{ℕ, zero, suc, List, [], ◌∷◌, ◌++◌, None, Some, codes}
use Rattle.p4_lexer.specs.declared.token.Kind.TheVariants as kind
use Rattle.elastic_ast.specs.declared.statements.Lval.TheVariants as lval
use Rattle.elastic_ast.specs.Tree.{Name, PlainExpr, PlainStmt, PlainStmts}
use Rattle.spelling.specs.Words.{Word, words}
use Rattle.p4_expr.specs.Examples.{named, signed, reserved, numbered}

abbrev pub inner_else : List Word
inner_else = words (codes "if (a) if (b) x(); else y();") (reserved 9 0 2 ∷ signed 2 3 4 ∷ named 4 5 ∷ signed 3 5 6 ∷ reserved 9 7 9 ∷ signed 2 10 11 ∷ named 11 12 ∷ signed 3 12 13 ∷ named 14 15 ∷ signed 2 15 16 ∷ signed 3 16 17 ∷ signed 8 17 18 ∷ reserved 5 19 23 ∷ named 24 25 ∷ signed 2 25 26 ∷ signed 3 26 27 ∷ signed 8 27 28 ∷ [])

-- a list of the one statement
abbrev pub only : PlainStmt → PlainStmts
only stmt = PlainStmts.cons stmt PlainStmts.nil

-- the call of an action without index and arguments
abbrev pub bare_call : Name → PlainStmt
bare_call action = PlainStmt.Call action None []

abbrev pub branch_of_a_stage : List Word
branch_of_a_stage = words (codes "if (a) @stage(0) { x(); }") (reserved 9 0 2 ∷ signed 2 3 4 ∷ named 4 5 ∷ signed 3 5 6 ∷ signed 30 7 8 ∷ named 8 13 ∷ signed 2 13 14 ∷ numbered 0 14 15 ∷ signed 3 15 16 ∷ signed 0 17 18 ∷ named 19 20 ∷ signed 2 20 21 ∷ signed 3 21 22 ∷ signed 8 22 23 ∷ signed 1 24 25 ∷ [])

abbrev pub touching_closings : List Word
touching_closings = words (codes "Register<bit<32>>(4) r;") (named 0 8 ∷ signed 6 8 9 ∷ reserved 1 9 12 ∷ signed 6 12 13 ∷ numbered 32 13 15 ∷ signed 7 15 16 ∷ signed 7 16 17 ∷ signed 2 17 18 ∷ numbered 4 18 19 ∷ signed 3 19 20 ∷ named 21 22 ∷ signed 8 22 23 ∷ [])

abbrev pub wider_number : List Word
wider_number = words (codes "const bit<8> c = 9w3;") (reserved 2 0 5 ∷ reserved 1 6 9 ∷ signed 6 9 10 ∷ numbered 8 10 11 ∷ signed 7 11 12 ∷ named 13 14 ∷ signed 12 15 16 ∷ record { kind = kind.Number (Some 9) 3; at = 17; end = 20 } ∷ signed 8 20 21 ∷ [])

abbrev pub too_wide : List Word
too_wide = words (codes "const bit<256> c = 1;") (reserved 2 0 5 ∷ reserved 1 6 9 ∷ signed 6 9 10 ∷ numbered 256 10 13 ∷ signed 7 13 14 ∷ named 15 16 ∷ signed 12 17 18 ∷ numbered 1 19 20 ∷ signed 8 20 21 ∷ [])

abbrev pub two_empty_keys : List Word
two_empty_keys = words (codes "table t { key = { } key = { } }") (reserved 19 0 5 ∷ named 6 7 ∷ signed 0 8 9 ∷ named 10 13 ∷ signed 12 14 15 ∷ signed 0 16 17 ∷ signed 1 18 19 ∷ named 20 23 ∷ signed 12 24 25 ∷ signed 0 26 27 ∷ signed 1 28 29 ∷ signed 1 30 31 ∷ [])

-- so many conditions, each within the one before, around an assignment
abbrev pub conditions : ℕ → PlainStmt
conditions zero = PlainStmt.Assign (lval.Std (codes "drop")) (PlainExpr.Num None 1)
conditions (suc n) = PlainStmt.If (PlainExpr.Named (codes "a")) (only (conditions n))

abbrev pub drop_words : List Word
drop_words = words (codes "std.drop = 1;") (named 0 3 ∷ signed 11 3 4 ∷ named 4 8 ∷ signed 12 9 10 ∷ numbered 1 11 12 ∷ signed 8 12 13 ∷ [])

abbrev pub condition_words : List Word
condition_words = words (codes "if (a)") (reserved 9 0 2 ∷ signed 2 3 4 ∷ named 4 5 ∷ signed 3 5 6 ∷ [])

abbrev pub opening_word : List Word
opening_word = words (codes "{") (signed 0 0 1 ∷ [])

abbrev pub closing_word : List Word
closing_word = words (codes "}") (signed 1 0 1 ∷ [])

-- the words of these conditions, each branch within brackets, or none; where they stand in a text matters to none of them
abbrev pub bracketed_conditions : ℕ → List Word
bracketed_conditions zero = drop_words
bracketed_conditions (suc n) = condition_words ++ opening_word ++ bracketed_conditions n ++ closing_word

abbrev pub bare_conditions : ℕ → List Word
bare_conditions zero = drop_words
bare_conditions (suc n) = condition_words ++ bare_conditions n
