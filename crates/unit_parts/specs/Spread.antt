-- The pieces of a body one after the other, each with the loop around it; this project's own.
use Rattle.std.specs.Prelude.{ℕ, ◌+◌, List, [], ◌∷◌, ◌++◌, Option, Some, None}
use Rattle.elastic_ast.specs.declared.flat.Lit.{Lit}
use Rattle.elastic_ast.specs.Tree.{PlainExpr}
use Rattle.elastic_ast.specs.Units.PlainUnits.{PlainWork, Plain, Call, Apply, Pred}
use Rattle.elastic_ast.specs.Units.Cuts.{Piece, Cuts, Nil, One, Loop}
use Rattle.elastic_ast.specs.Units.UnitsOf.{Around}

pub record PieceAround : Type 0 where
  pub around : Option Around
  pub piece : Piece

abbrev pub standing : Option Around → Piece → PieceAround
standing around piece = record { around = around; piece = piece }

abbrev pub around_at : ℕ → List ℕ → List ℕ → Around
around_at number index size = record { number = number; index = index; size = size }

-- in a loop: a loop in a loop is no loop of its own
abbrev pub within : Around → Cuts → List PieceAround
within around Nil = []
within around (One piece rest) = standing (Some around) piece ∷ within around rest
within around (Loop index size inner rest) = within around inner ++ within around rest

-- outside of loops, where the next loop has number `loop`
abbrev pub outside : ℕ → Cuts → List PieceAround
outside loop Nil = []
outside loop (One piece rest) = standing None piece ∷ outside loop rest
outside loop (Loop index size inner rest) = within (around_at loop index size) inner ++ outside (loop + 1) rest

abbrev pub spread : Option Around → ℕ → Cuts → List PieceAround
spread None loop cuts = outside loop cuts
spread (Some around) loop cuts = within around cuts

abbrev pub outer_loops : Cuts → ℕ
outer_loops Nil = 0
outer_loops (One piece rest) = outer_loops rest
outer_loops (Loop index size inner rest) = 1 + outer_loops rest

-- how many loops are numbered
abbrev pub loops_in : Option Around → Cuts → ℕ
loops_in None cuts = outer_loops cuts
loops_in (Some around) cuts = 0

-- a piece that keeps a condition gets no literals
abbrev pub lits_for : PlainWork → List Lit → List Lit
lits_for (Plain statement) lits = lits
lits_for (Call statement) lits = lits
lits_for (Apply table) lits = lits
lits_for (Pred number condition) lits = []

-- a piece under the tests around it
abbrev pub tested : List Lit → List PlainExpr → Piece → Piece
tested lits conds piece =
    record { lits = lits_for piece.work lits ++ piece.lits; conds = conds ++ piece.conds; work = piece.work; stage = piece.stage }

abbrev pub put_under : List Lit → List PlainExpr → PieceAround → PieceAround
put_under lits conds at = standing at.around (tested lits conds at.piece)
