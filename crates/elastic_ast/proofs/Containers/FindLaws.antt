-- The way through the slots of one hash to that of a place.
use Rattle.std.proofs.Common.{◌≡◌, ◌↔◌, ◌<◌, ℕ, Bool, true, false, List, [], length, get_or, Option, sym, ap, ◌∙◌, arith, true≢false}
use Rattle.std.proofs.lemmas.List.{get_or-map, length-map}
use Rattle.std.specs.Prelude.{IsTrue}
use Rattle.elastic_ast.specs.declared.slot.Slot.{Slot}
use Rattle.elastic_ast.specs.Containers.Slots.{slot_place, entries, places, place_hash, hashes_of, IsSlotAt}
use Rattle.elastic_ast.specs.Containers.LastWith.{IsPassing, Passes, AllFail}
use Rattle.elastic_ast.proofs.Containers.SlotLaws.{length_places, place_here}

pub length_hashes : (hashes : List ℕ) (slots : List Slot) → hashes ≡ hashes_of slots → length hashes ≡ length (places (entries slots))
length_hashes hashes slots e = ap length e ∙ length-map (places (entries slots)) place_hash

pub in_slots : (hashes : List ℕ) (slots : List Slot) (k : ℕ) → hashes ≡ hashes_of slots → k < length hashes → k < length slots
in_slots hashes slots k e less = omega (arith, length_hashes hashes slots e, length_places slots)

-- the number that a search by the hash gives is that of the place's slot
pub found_by_hash : {Test : ℕ → Bool → Type 0} (hashes : List ℕ) (slots : List Slot) (wanted : List ℕ) (o : Option ℕ) → hashes ≡ hashes_of slots → IsPassing Test hashes (place_hash wanted) o
    → ((k : ℕ) (t : Bool) → k < length slots → Test k t → (s : Slot) × (s ≡ get_or slots k s) × (r : Bool) × (IsTrue r ↔ (slot_place s ≡ wanted)) × (t ≡ r))
    → IsSlotAt (places (entries slots)) wanted o
found_by_hash hashes slots wanted o e (Passes k less passes) tells =
    let within = in_slots hashes slots k e less in
    let told = tells k true within passes in
    (omega (arith, length_hashes hashes slots e), place_here slots k told.0 within told.1 ∙ told.3.0 (sym told.4))
found_by_hash hashes slots wanted o e (AllFail fails) tells = λ k less at.
    let within : k < length hashes = omega (arith, length_hashes hashes slots e) in
    let hash = ap (λ (hs : List ℕ). get_or hs k 0) e ∙ get_or-map place_hash (places (entries slots)) k [] 0 less ∙ ap place_hash at in
    let inside = in_slots hashes slots k e within in
    let told = tells k false inside (fails k within hash) in
    true≢false (sym (told.4 ∙ told.3.1 (sym (place_here slots k told.0 inside told.1) ∙ at)))
