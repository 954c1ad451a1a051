-- The units of a body are those of its pieces one after the other.
use Rattle.std.proofs.Common.{◌≡◌, ℕ, ◌+◌, List, [], ◌∷◌, ◌++◌, Option, Some, None, refl, sym, ap, ap₂, ◌∙◌}
use Rattle.std.specs.Prelude.{map}
use Rattle.std.proofs.lemmas.List.{map-append}
use Rattle.elastic_ast.specs.Tree.{PlainDecl, PlainExpr}
use Rattle.elastic_ast.specs.declared.flat.Lit.{Lit}
use Rattle.elastic_ast.specs.Units.PlainUnits.{PlainWork, Plain, Call, Apply, Pred}
use Rattle.elastic_ast.specs.Units.Cuts.{Cuts, Nil, One, Loop}
use Rattle.elastic_ast.specs.Units.UnitsOf.{Around, unit_of, inner_pieces, flat}
use Rattle.unit_parts.specs.Spread.{PieceAround, standing, around_at, within, outside, tested, put_under}
use Rattle.unit_parts.specs.UnitAt.{unit_at}

flat_within : (decls : List PlainDecl) (around : Around) (cuts : Cuts) → map (unit_of decls (Some around)) (inner_pieces cuts) ≡ map (unit_at decls) (within around cuts)
flat_within decls around Nil = refl
flat_within decls around (One piece rest) = ap (λ z. unit_of decls (Some around) piece ∷ z) (flat_within decls around rest)
flat_within decls around (Loop index size inner rest) =
    map-append (unit_of decls (Some around)) (inner_pieces inner) (inner_pieces rest)
    ∙ ap₂ (λ x y. x ++ y) (flat_within decls around inner) (flat_within decls around rest)
    ∙ sym (map-append (unit_at decls) (within around inner) (within around rest))

pub flat_outside : (decls : List PlainDecl) (cuts : Cuts) (loop : ℕ) → flat decls cuts loop ≡ map (unit_at decls) (outside loop cuts)
flat_outside decls Nil loop = refl
flat_outside decls (One piece rest) loop = ap (λ z. unit_of decls None piece ∷ z) (flat_outside decls rest loop)
flat_outside decls (Loop index size inner rest) loop =
    ap₂ (λ x y. x ++ y) (flat_within decls (around_at loop index size) inner) (flat_outside decls rest (loop + 1))
    ∙ sym (map-append (unit_at decls) (within (around_at loop index size) inner) (outside (loop + 1) rest))

-- under no tests a piece is itself
untested_work : (lits : List Lit) (conds : List PlainExpr) (work : PlainWork) (stage : Option ℕ)
    → tested [] [] (record { lits = lits; conds = conds; work = work; stage = stage }) ≡ record { lits = lits; conds = conds; work = work; stage = stage }
untested_work lits conds (Plain s) stage = refl
untested_work lits conds (Call s) stage = refl
untested_work lits conds (Apply t) stage = refl
untested_work lits conds (Pred n c) stage = refl

under_none : (at : PieceAround) → put_under [] [] at ≡ at
under_none at = ap (standing at.around) (untested_work at.piece.lits at.piece.conds at.piece.work at.piece.stage)

pub all_under_none : (pieces : List PieceAround) → map (put_under [] []) pieces ≡ pieces
all_under_none [] = refl
all_under_none (at ∷ rest) = ap₂ (λ x y. x ∷ y) (under_none at) (all_under_none rest)
