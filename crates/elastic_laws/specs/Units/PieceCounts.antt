-- How many pieces statements have, by the text alone: none, one, or more; a loop counts as more. This project's own.
use Rattle.std.specs.Prelude.{◌≡◌, ℕ, Bool, true, false, is_some, Option}
use Rattle.elastic_ast.specs.Tree.{PlainStmt, PlainStmts}
use Rattle.elastic_ast.specs.Units.Cuts.{single, cut_all}

pub data HowMany : Type 0 where
  NoPiece : HowMany
  OnePiece : HowMany
  More : HowMany

abbrev pub together : HowMany → HowMany → HowMany
together NoPiece other = other
together OnePiece NoPiece = OnePiece
together OnePiece OnePiece = More
together OnePiece More = More
together More other = More

-- under a condition that may be put before one piece
abbrev pub conditioned : HowMany → HowMany
conditioned NoPiece = OnePiece
conditioned OnePiece = OnePiece
conditioned More = More

abbrev mutual
  pub count : PlainStmt → HowMany
  count (PlainStmt.Block stage body) = count_all body
  count (PlainStmt.If condition body) = conditioned (count_all body)
  count (PlainStmt.IfElse condition body other) = together OnePiece (together (count_all body) (count_all other))
  count (PlainStmt.For index size body) = More
  count (PlainStmt.Assign to number) = OnePiece
  count (PlainStmt.Read to register cell) = OnePiece
  count (PlainStmt.Write register cell number) = OnePiece
  count (PlainStmt.Valid header on) = OnePiece
  count (PlainStmt.Call action index args) = OnePiece
  count (PlainStmt.Apply table) = OnePiece

  pub count_all : PlainStmts → HowMany
  count_all PlainStmts.nil = NoPiece
  count_all (PlainStmts.cons first rest) = together (count first) (count_all rest)

abbrev pub is_single : HowMany → Bool
is_single OnePiece = true
is_single NoPiece = false
is_single More = false

-- there is exactly one piece, and no loop, exactly where the text has one
abbrev pub OneIsCounted : Type 0
OneIsCounted =
    (body : PlainStmts) (own : Bool) (number : ℕ) (stage : Option ℕ) →
    is_some (single (cut_all body own number stage)) ≡ is_single (count_all body)
