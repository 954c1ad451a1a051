-- The places and the entries of slots, one by one.
use Rattle.std.proofs.Common.{◌≡◌, ℕ, ◌<◌, List, [], length, set, get_or, sym, ap, ◌∙◌, arith}
use Rattle.std.proofs.lemmas.List.{get_or-map, length-map, map-set}
use Rattle.elx_bits.specs.Words.{BitWord}
use Rattle.elastic_ast.specs.declared.slot.Slot.{Slot}
use Rattle.elastic_ast.specs.Containers.Slots.{slot_place, entry, entries, places}
use Rattle.elastic_ast.specs.Containers.BitWords.{word}

pub length_entries : (slots : List Slot) → length (entries slots) ≡ length slots
length_entries slots = length-map slots entry

pub length_places : (slots : List Slot) → length (places (entries slots)) ≡ length slots
length_places slots = length-map (entries slots) (λ (e : List ℕ × BitWord). e.0) ∙ length_entries slots

pub entry_here : (slots : List Slot) (k : ℕ) (s : Slot) → k < length slots → s ≡ get_or slots k s → (d : List ℕ × BitWord) → get_or (entries slots) k d ≡ entry s
entry_here slots k s less is d = get_or-map entry slots k s d less ∙ ap entry (sym is)

pub place_here : (slots : List Slot) (k : ℕ) (s : Slot) → k < length slots → s ≡ get_or slots k s → get_or (places (entries slots)) k [] ≡ slot_place s
place_here slots k s less is =
    get_or-map (λ (e : List ℕ × BitWord). e.0) (entries slots) k (entry s) [] (omega (arith, length_entries slots))
    ∙ ap (λ (e : List ℕ × BitWord). e.0) (entry_here slots k s less is (entry s))

pub entries_set : (slots : List Slot) (k : ℕ) (s new : Slot) → k < length slots → s ≡ get_or slots k s → slot_place new ≡ slot_place s → entries (set slots k new) ≡ set (entries slots) k (get_or (places (entries slots)) k [], word new.value)
entries_set slots k s new less is same =
    map-set entry slots k new
    ∙ ap (λ (p : List ℕ). set (entries slots) k (p, word new.value)) (same ∙ sym (place_here slots k s less is))
