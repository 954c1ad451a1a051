-- A place tells its location and its index.
use Rattle.std.proofs.Common.{◌≡◌, ℕ, Bool, true, false, eqb, List, ◌++◌, length, take, drop, Option, Some, None, refl, sym, ap, ◌∙◌, arith}
use Rattle.std.proofs.lemmas.Bool.{eqb-true}
use Rattle.std.specs.Option.{option_eq}
use Rattle.std.proofs.lemmas.List.{take_at, drop_at}
use Rattle.elastic_ast.specs.declared.flat.Location.{Location}
use Rattle.elastic_ast.specs.declared.flat.Location.TheVariants.{Header, Valid, Meta, Std, Pred, Reg}
use Rattle.elastic_ast.specs.Containers.LocationPlaces.{index_code, flag_code, place, PlacesTell}

same_index : (i j : Option ℕ) → index_code i ≡ index_code j → i ≡ j
same_index None None e = refl
same_index None (Some j) e = absurd (omega arith)
same_index (Some i) None e = absurd (omega arith)
same_index (Some i) (Some j) e = let n : i ≡ j = omega arith in cc

same_flag : (a b : Bool) → flag_code a ≡ flag_code b → a ≡ b
same_flag false false e = refl
same_flag false true e = absurd (omega arith)
same_flag true false e = absurd (omega arith)
same_flag true true e = refl

-- two names, one after the other, are told by the length of the first
same_first : (a b c d : List ℕ) → length a ≡ length b → a ++ c ≡ b ++ d → a ≡ b
same_first a b c d n e = sym (take_at a c (length b) n) ∙ ap (take (length b)) e ∙ take_at b d (length b) refl

same_second : (a b c d : List ℕ) → length a ≡ length b → a ++ c ≡ b ++ d → c ≡ d
same_second a b c d n e = sym (drop_at a c (length b) n) ∙ ap (drop (length b)) e ∙ drop_at b d (length b) refl

pub place_tells : PlacesTell
place_tells (Header h f) (Header k g) i j e =
    let n : length h ≡ length k = cc in
    let both : h ++ f ≡ k ++ g = cc in
    let one = same_first h k f g n both in
    let two = same_second h k f g n both in
    (cc, same_index i j cc)
place_tells (Valid h) (Valid k) i j e = (cc, same_index i j cc)
place_tells (Meta h o) (Meta k p) i j e = let own = same_flag o p cc in (cc, same_index i j cc)
place_tells (Std h) (Std k) i j e = (cc, same_index i j cc)
place_tells (Pred m o) (Pred n p) i j e = let own = same_flag o p cc in (cc, same_index i j cc)
place_tells (Reg h o) (Reg k p) i j e = let own = same_flag o p cc in (cc, same_index i j cc)
place_tells a b i j e = cc

pub same_place : (parts a b : Location) (i j : Option ℕ) → i ≡ j → parts ≡ a → parts ≡ b → place a i ≡ place b j
same_place parts a b i j p q r = cc

pub index_told : (i j : Option ℕ) → true ≡ option_eq eqb i j → i ≡ j
index_told None None e = refl
index_told None (Some j) e = cc
index_told (Some i) None e = cc
index_told (Some i) (Some j) e = let n : i ≡ j = eqb-true i j (sym e) in cc
