-- Copies from slots to slots of the same places.
use Rattle.std.proofs.Common.{◌≡◌, ℕ, ◌+◌, ◌<◌, ◌≤◌, List, [], ◌∷◌, ◌++◌, length, set, take, get_or, refl, sym, ap, ◌∙◌, arith}
use Rattle.std.proofs.lemmas.List.{take_more, take_more_set, take_all}
use Rattle.elx_bits.specs.Words.{BitWord}
use Rattle.elastic_ast.specs.declared.slot.Slot.{Slot}
use Rattle.elastic_ast.specs.Containers.Slots.{slot_place, entry, entries, places}
use Rattle.elastic_ast.specs.Containers.BitWords.{word}
use Rattle.elastic_ast.proofs.Containers.EntryLaws.{places_set}
use Rattle.elastic_ast.proofs.Containers.SlotLaws.{length_entries, length_places, place_here, entry_here}

pub same_length : (slots from : List Slot) → places (entries slots) ≡ places (entries from) → length slots ≡ length from
same_length slots from e = omega (arith, length_places slots, length_places from, ap length e)

pub all_places : (slots from : List Slot) (k : ℕ) → length slots ≡ length from → length slots ≤ k → take k (places (entries slots)) ≡ take k (places (entries from)) → places (entries slots) ≡ places (entries from)
all_places slots from k n h e =
    sym (take_all k (places (entries slots)) (omega (arith, length_places slots)))
    ∙ e
    ∙ take_all k (places (entries from)) (omega (arith, length_places from))

pub all_entries : (slots from : List Slot) (k : ℕ) → places (entries slots) ≡ places (entries from) → length from ≤ k → take k (entries slots) ≡ take k (entries from) → entries slots ≡ entries from
all_entries slots from k n h e =
    sym (take_all k (entries slots) (omega (arith, length_entries slots, same_length slots from n)))
    ∙ e
    ∙ take_all k (entries from) (omega (arith, length_entries from))

pub copied_places : (slots from new : List Slot) (k : ℕ) (w : BitWord) → places (entries slots) ≡ places (entries from) → entries new ≡ set (entries slots) k (get_or (places (entries slots)) k [], w) → places (entries new) ≡ places (entries from)
copied_places slots from new k w n e = ap places e ∙ places_set (entries slots) k (get_or (places (entries slots)) k []) w refl ∙ n

pub copied_more : (slots from new : List Slot) (k : ℕ) (s : Slot) → places (entries slots) ≡ places (entries from) → take k (entries slots) ≡ take k (entries from) → k < length from → s ≡ get_or from k s → entries new ≡ set (entries slots) k (get_or (places (entries slots)) k [], word s.value) → take (k + 1) (entries new) ≡ take (k + 1) (entries from)
copied_more slots from new k s n e less is written =
    let at : get_or (places (entries slots)) k [] ≡ slot_place s = ap (λ (ps : List (List ℕ)). get_or ps k []) n ∙ place_here from k s less is in
    ap (take (k + 1)) written
    ∙ take_more_set (entries slots) k (get_or (places (entries slots)) k [], word s.value) (omega (arith, length_entries slots, same_length slots from n))
    ∙ ap (λ (p : List ℕ). take k (entries slots) ++ (p, word s.value) ∷ []) at
    ∙ ap (λ (es : List (List ℕ × BitWord)). es ++ entry s ∷ []) e
    ∙ ap (λ (x : List ℕ × BitWord). take k (entries from) ++ x ∷ []) (sym (entry_here from k s less is (entry s)))
    ∙ sym (take_more (entries from) k (entry s) (omega (arith, length_entries from)))
