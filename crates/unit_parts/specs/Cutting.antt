-- The steps of a walk over a body; this project's own.
use Rattle.std.specs.Prelude.{◌≡◌, ℕ, ◌+◌, List, [], ◌∷◌, ◌++◌, Option, Some, None, option_map}
use Rattle.elastic_ast.specs.declared.flat.Lit.{Lit}
use Rattle.elastic_ast.specs.Tree.{Name, PlainExpr}
use Rattle.elastic_ast.specs.Units.PlainUnits.{PlainWork}
use Rattle.elastic_ast.specs.Units.Cuts.{Nil, Loop, untested}
use Rattle.elastic_ast.specs.Units.UnitsOf.{Around}
use Rattle.unit_parts.specs.declared.pieces.Piece.{Piece}
use Rattle.unit_parts.specs.declared.cutting.Walk.{Walk}
use Rattle.unit_parts.specs.declared.cutting.Place.{Place}
use Rattle.unit_parts.specs.Spread.{standing, around_at, loops_in, put_under}
use Rattle.unit_parts.specs.SeenPieces.{seen_loop, seen_conds, seen_pieces}

-- a piece with this work more, at a place
abbrev pub AddsPiece : List Piece → List Piece → Place → PlainWork → Type 0
AddsPiece old new place work =
    seen_pieces new ≡ seen_pieces old ++ put_under place.lits.now (seen_conds place.conds.now) (standing (option_map seen_loop place.around) (untested work place.stage)) ∷ []

-- the loop around what stands in a loop: its own, where there is none around it
abbrev pub loop_entered : Option Around → ℕ → Name → Name → Around
loop_entered None loop index size = around_at loop index size
loop_entered (Some around) loop index size = around

-- a walk has numbered a loop, where it is one of its own
pub record EntersLoop (old new : Walk) (around : Option Around) (index size : Name) (inside : Around) : Type 0 where
  pub pieces : new.pieces.items ≡ old.pieces.items
  pub number : new.number ≡ old.number
  pub loops : new.loops ≡ old.loops + loops_in around (Loop index size Nil Nil)
  pub entered : inside ≡ loop_entered around old.loops index size

-- a place under one literal more
pub record IsUnder (place inner : Place) (lit : Lit) : Type 0 where
  pub lits : inner.lits.now ≡ place.lits.now ++ lit ∷ []
  pub conds : inner.conds.now ≡ place.conds.now
  pub around : inner.around ≡ place.around
  pub stage : inner.stage ≡ place.stage

-- a place under one condition more
pub record IsGuarded (place inner : Place) (cond : PlainExpr) : Type 0 where
  pub lits : inner.lits.now ≡ place.lits.now
  pub conds : seen_conds inner.conds.now ≡ seen_conds place.conds.now ++ cond ∷ []
  pub around : inner.around ≡ place.around
  pub stage : inner.stage ≡ place.stage
