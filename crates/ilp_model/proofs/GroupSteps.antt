-- Rows that are written one candidate after the other.
use Rattle.std.proofs.Common.{◌≡◌, ◌∙◌, ℕ, ◌+◌, ◌<◌, List, ◌∷◌, ◌++◌, drop, length, get_or, append_assoc, sym, ap}
use Rattle.std.specs.Prelude.{flat_map}
use Rattle.std.proofs.lemmas.List.{drop_more}
use Rattle.ilp_model.specs.declared.listing.Candidate.{Candidate as Listed}
use Rattle.ilp_model.specs.WrittenGroups.{with_places}

pub places_step : (list : List Listed) (place : ℕ) (one : Listed) → place < length list → one ≡ get_or list place one
    → with_places place (drop place list) ≡ (place, one) ∷ with_places (place + 1) (drop (place + 1) list)
places_step list place one h e = ap (with_places place) (drop_more list place one h ∙ ap (λ z. z ∷ drop (place + 1) list) (sym e))

-- what one candidate gives is added, and the rest is left
pub group_step : {A : Type 0} (gives : ℕ × Listed → List A) (list : List Listed) (place : ℕ) (one : Listed) (before now whole : List A)
    → place < length list → one ≡ get_or list place one
    → now ≡ before ++ gives (place, one)
    → before ++ flat_map gives (with_places place (drop place list)) ≡ whole
    → now ++ flat_map gives (with_places (place + 1) (drop (place + 1) list)) ≡ whole
group_step gives list place one before now whole h e added inv =
    ap (λ z. z ++ flat_map gives (with_places (place + 1) (drop (place + 1) list))) added
    ∙ append_assoc before (gives (place, one)) (flat_map gives (with_places (place + 1) (drop (place + 1) list)))
    ∙ ap (λ z. before ++ flat_map gives z) (sym (places_step list place one h e))
    ∙ inv
