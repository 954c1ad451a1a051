-- How the body of a control is cut into pieces of work, this project's own.
use Rattle.std.specs.Prelude.{ℕ, suc, ◌+◌, Bool, true, false, List, [], ◌∷◌, Option, Some, None}
use Rattle.elastic_ast.specs.declared.flat.Lit.{Lit}
use Rattle.elastic_ast.specs.Typing.Scope.{or_else}
use Rattle.elastic_ast.specs.Tree.{Name, PlainExpr, PlainStmt, PlainStmts}
use Rattle.elastic_ast.specs.Units.PlainUnits.{PlainWork, Plain, Call, Apply, Pred}

-- a piece of work with its tests, which are literals and then conditions, and the stage that the text gives it
pub record Piece : Type 0 where
  pub lits : List Lit
  pub conds : List PlainExpr
  pub work : PlainWork
  pub stage : Option ℕ

-- pieces in order; those of a loop stand under the names of its index and its size
pub data Cuts : Type 0 where
  Nil : Cuts
  One : Piece → Cuts → Cuts
  Loop : Name → Name → Cuts → Cuts → Cuts

abbrev pub append : Cuts → Cuts → Cuts
append Nil others = others
append (One piece rest) others = One piece (append rest others)
append (Loop index size inner rest) others = Loop index size inner (append rest others)

abbrev pub tests_in : PlainWork → ℕ
tests_in (Plain statement) = 0
tests_in (Call statement) = 0
tests_in (Apply table) = 0
tests_in (Pred number condition) = 1

-- how many of them keep a condition in a predicate
abbrev pub tests : Cuts → ℕ
tests Nil = 0
tests (One piece rest) = tests_in piece.work + tests rest
tests (Loop index size inner rest) = tests inner + tests rest

abbrev pub literal : ℕ → Bool → Bool → Lit
literal number own on = record { number = number; own = own; on = on }

-- a literal is put before those of the piece; one that keeps a condition gets none
abbrev pub lit_put : Lit → PlainWork → Piece → Piece
lit_put lit (Plain statement) piece = record piece { lits = lit ∷ piece.lits }
lit_put lit (Call statement) piece = record piece { lits = lit ∷ piece.lits }
lit_put lit (Apply table) piece = record piece { lits = lit ∷ piece.lits }
lit_put lit (Pred number condition) piece = piece

-- a literal is put before those of each piece
abbrev pub with_lit : Lit → Cuts → Cuts
with_lit lit Nil = Nil
with_lit lit (One piece rest) = One (lit_put lit piece.work piece) (with_lit lit rest)
with_lit lit (Loop index size inner rest) = Loop index size (with_lit lit inner) (with_lit lit rest)

-- the piece where there is exactly one, and no loop
abbrev pub single : Cuts → Option Piece
single Nil = None
single (One piece Nil) = Some piece
single (One piece (One other rest)) = None
single (One piece (Loop index size inner rest)) = None
single (Loop index size inner rest) = None

-- a piece without tests
abbrev pub untested : PlainWork → Option ℕ → Piece
untested work stage = record { lits = []; conds = []; work = work; stage = stage }

abbrev pub alone : PlainWork → Option ℕ → Cuts
alone work stage = One (untested work stage) Nil

-- a condition is kept in predicate `number`; the pieces of the first branch work where it is on, those of the other where it
-- is off
abbrev pub branched : PlainExpr → Bool → ℕ → Option ℕ → Cuts → Cuts → Cuts
branched condition own number stage first other =
    One (untested (Pred number condition) stage)
    (append (with_lit (literal number own true) first) (with_lit (literal number own false) other))

-- a condition over one piece is put before the conditions of the piece; over anything else it is kept in a predicate
abbrev pub guarded : Option Piece → PlainExpr → Bool → ℕ → Option ℕ → Cuts → Cuts
guarded (Some piece) condition own number stage body = One (record piece { conds = condition ∷ piece.conds }) Nil
guarded None condition own number stage body = branched condition own number stage body Nil

-- the pieces of a statement: whether it stands in a loop, the number of the first predicate, and the stage of the innermost
-- block around it that has one. Predicates are numbered in the order of the text.
abbrev mutual
  pub cut : PlainStmt → Bool → ℕ → Option ℕ → Cuts
  cut (PlainStmt.Block own_stage body) own number stage = cut_all body own number (or_else own_stage stage)
  cut (PlainStmt.If condition body) own number stage =
      guarded (single (cut_all body own number stage)) condition own number stage (cut_all body own (suc number) stage)
  cut (PlainStmt.IfElse condition body other) own number stage =
      branched condition own number stage (cut_all body own (suc number) stage)
      (cut_all other own (suc number + tests (cut_all body own (suc number) stage)) stage)
  cut (PlainStmt.For index size body) own number stage = Loop index size (cut_all body true number stage) Nil
  cut (PlainStmt.Assign to value) own number stage = alone (Plain (PlainStmt.Assign to value)) stage
  cut (PlainStmt.Read to register cell) own number stage = alone (Plain (PlainStmt.Read to register cell)) stage
  cut (PlainStmt.Write register cell value) own number stage = alone (Plain (PlainStmt.Write register cell value)) stage
  cut (PlainStmt.Valid header on) own number stage = alone (Plain (PlainStmt.Valid header on)) stage
  cut (PlainStmt.Call action index args) own number stage = alone (Call (PlainStmt.Call action index args)) stage
  cut (PlainStmt.Apply table) own number stage = alone (Apply table) stage

  pub cut_all : PlainStmts → Bool → ℕ → Option ℕ → Cuts
  cut_all PlainStmts.nil own number stage = Nil
  cut_all (PlainStmts.cons first rest) own number stage =
      append (cut first own number stage) (cut_all rest own (number + tests (cut first own number stage)) stage)
