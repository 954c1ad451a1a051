-- The units of pieces one after the other, up to the first that has too many operators.
use Rattle.std.proofs.Common.{◌≡◌, ℕ, ◌+◌, ◌<◌, ◌≤◌, List, [], ◌∷◌, ◌++◌, take, length, get_or, Some, refl, sym, ap, subst, ◌∙◌, arith}
use Rattle.std.specs.Prelude.{map, slice_get, option_map, IfErr, Result, Ok, Err}
use Rattle.std.specs.Result.{IsErrAnd}
use Rattle.std.proofs.lemmas.List.{take-map, map_push, length-map, length-take-le}
use Rattle.std.proofs.lemmas.List.Elements.{All-push}
use Rattle.std.proofs.lemmas.Option.{slice_get-map, slice_get_read}
use Rattle.elastic_ast.specs.declared.flat.Unit.{Unit}
use Rattle.elastic_ast.specs.Tree.{PlainDecl}
use Rattle.elastic_ast.specs.Units.PlainUnits.{PlainUnit}
use Rattle.elastic_ast.specs.Units.SeenUnits.{seen_unit}
use Rattle.unit_parts.specs.declared.pieces.Piece.{Piece}
use Rattle.unit_parts.specs.SeenPieces.{seen_piece}
use Rattle.unit_parts.specs.UnitAt.{unit_at}
use Rattle.unit_flow.specs.declared.limit.UnitError.{UnitError}
use Rattle.unit_flow.specs.declared.limit.UnitError.TheVariants as refusal
use Rattle.unit_flow.specs.TooLarge.{IsTooLarge, AreFitting, IsFirstTooLarge, units_at}
use Rattle.unit_flow.proofs.SummaryLaws.{made_more}

-- an error that is handed on
pub handed_on : {A E : Type 0} (P : E → Type 0) (r : Result A E) (e : E) → IsErrAnd r (λ d. d ≡ e) → P e → IfErr r P
handed_on P (Ok x) e is p = tt
handed_on P (Err d) e is p = subst P (sym is) p

module _ (decls : List PlainDecl) (most : ℕ) where
  -- the units of the pieces so far, none of which is too large
  abbrev pub ListsTo : List Unit → List Piece → Type 0
  ListsTo list pieces = (map seen_unit list ≡ units_at decls pieces) × AreFitting most (map seen_unit list)

  pub lists_more : (old new : List Unit) (unit : Unit) (pieces : List Piece) (i : ℕ) (piece : Piece) → new ≡ old ++ unit ∷ [] → seen_unit unit ≡ unit_at decls (seen_piece piece) → unit.ops ≤ most → i < length pieces → piece ≡ get_or pieces i piece
      → ListsTo old (take i pieces) → ListsTo new (take (i + 1) pieces)
  lists_more old new unit pieces i piece pushed is fits h here before = (
    made_more seen_unit (λ x. unit_at decls (seen_piece x)) old new unit pieces i piece pushed is h here before.0,
    subst (AreFitting most) (sym (ap (map seen_unit) pushed ∙ map_push seen_unit old unit)) (All-push (λ u. u.ops ≤ most) (map seen_unit old) (seen_unit unit) before.1 fits),
  )

  listed_length : (list : List Unit) (pieces : List Piece) (i : ℕ) → i < length pieces → map seen_unit list ≡ units_at decls (take i pieces) → length list ≡ i
  listed_length list pieces i h e =
      sym (length-map list seen_unit) ∙ ap length e ∙ length-map (take i pieces) (λ x. unit_at decls (seen_piece x)) ∙ length-take-le i pieces (omega (arith, h))

  pub refused_first : (list : List Unit) (unit : Unit) (pieces : List Piece) (i : ℕ) (piece : Piece) (error : UnitError) → IsTooLarge (length list) unit.ops most error → seen_unit unit ≡ unit_at decls (seen_piece piece) → i < length pieces → piece ≡ get_or pieces i piece
      → ListsTo list (take i pieces) → IsFirstTooLarge (units_at decls pieces) most error
  refused_first list unit pieces i piece refusal.Memory is same h here before = tt
  refused_first list unit pieces i piece (refusal.UnitTooLarge number ops) is same h here before =
      let number_is : number ≡ i = is.0 ∙ listed_length list pieces i h before.0 in
      record {
        here =
            ap (λ n. option_map (λ u. u.ops) (slice_get (units_at decls pieces) n)) number_is
            ∙ ap (option_map (λ u. u.ops)) (slice_get-map (λ x. unit_at decls (seen_piece x)) pieces i ∙ ap (option_map (λ x. unit_at decls (seen_piece x))) (slice_get_read pieces (length pieces) i piece refl h here))
            ∙ ap (λ (u : PlainUnit). Some u.ops) (sym same) ∙ ap Some (sym is.1);
        above = subst (λ n. most < n) (sym is.1) is.2;
        before =
            subst (AreFitting most) (before.0 ∙ sym (take-map (λ x. unit_at decls (seen_piece x)) i pieces) ∙ ap (λ n. take n (units_at decls pieces)) (sym number_is)) before.1;
      }
