-- What a vector answers, from its slots.
use Rattle.std.proofs.Common.{◌≡◌, ◌≢◌, ℕ, ◌<◌, Bool, true, false, cond, List, [], ◌∷◌, ◌++◌, length, map, set, get_or, slice_index, Option, Some, None, is_some, IfSome, refl, sym, ap, subst, ◌∙◌, arith}
use Rattle.std.specs.FinMap.{get, contains_key, insert, get-empty, get-insert, get-from_entries}
use Rattle.std.specs.Ordering.{nat_cmp}
use Rattle.std.specs.Cmp.Lexicographic.{slice_cmp, nat_list_cmp_total}
use Rattle.std.proofs.lemmas.List.{map_push}
use Rattle.elx_bits.specs.Words.{BitWord}
use Rattle.elastic_ast.specs.declared.flat.Location.{Location}
use Rattle.elastic_ast.specs.declared.flat.Location.TheVariants.{Valid}
use Rattle.elastic_ast.specs.declared.slot.Slot.{Slot}
use Rattle.elastic_ast.specs.Containers.LocationPlaces.{place}
use Rattle.elastic_ast.specs.Containers.Slots.{slot_place, entry, entries, places, seen_slots, place_hash, Apart, IsVector, Indexed}
use Rattle.elastic_ast.specs.Containers.Vectors.{Vectored, BitsOfValidity, MayStand}
use Rattle.elastic_ast.specs.Containers.BitWords.{word}
use Rattle.elastic_ast.proofs.Containers.EntryLaws.{tied, same_tied, found_at, found_nowhere, mapped, mapped_set, mapped_push, places_set, apart_push}
use Rattle.elastic_ast.proofs.Containers.SlotLaws.{length_entries, length_places, entry_here}

pub stands : (at : Location) (index : Option ℕ) (w : BitWord) → MayStand at w.0 → slice_index (place at index) 0 ≡ 1 → w.0 ≡ 1
stands (Valid header) index w m e = m
stands other index w m e = absurd (omega arith)

wide : (q p : List ℕ) (w : BitWord) (o : Option BitWord) (b : Bool) → tied q p ≡ b → IfSome o (λ x. x.0 ≡ 1) → slice_index q 0 ≡ 1 → (slice_index p 0 ≡ 1 → w.0 ≡ 1) → IfSome (cond b (Some w) o) (λ x. x.0 ≡ 1)
wide q p w o true t h e f = f (sym (ap (λ (x : List ℕ). slice_index x 0) (same_tied q p t)) ∙ e)
wide q p w o false t h e f = h

pub validity_insert : (m : Vectored) (p : List ℕ) (w : BitWord) → BitsOfValidity m → (slice_index p 0 ≡ 1 → w.0 ≡ 1) → BitsOfValidity (insert m p w)
validity_insert m p w h f =
    λ q e. subst (λ (o : Option BitWord). IfSome o (λ x. x.0 ≡ 1)) (sym (get-insert nat_list_cmp_total m p w q)) (wide q p w (get m q) _ refl (h q e) e f)

pub empty_vector : (slots : List Slot) → slots ≡ [] → IsVector slots
empty_vector slots e = subst IsVector (sym e) (record {
  apart = record { one = λ i j h k same. absurd (omega arith) };
  validity = λ q _. subst (λ (o : Option BitWord). IfSome o (λ x. x.0 ≡ 1)) (sym (get-empty (slice_cmp nat_cmp) q)) tt;
})

pub seen_at : (slots : List Slot) (k : ℕ) (s : Slot) (p : List ℕ) → IsVector slots → k < length (places (entries slots)) → get_or (places (entries slots)) k [] ≡ p → s ≡ get_or slots k s → get (seen_slots slots) p ≡ Some (word s.value)
seen_at slots k s p v less at is =
    let below : k < length slots = omega (arith, length_places slots) in
    get-from_entries nat_list_cmp_total (entries slots) p
    ∙ found_at (entries slots) k p (entry s) v.apart (omega (arith, length_entries slots)) at
    ∙ ap (λ (e : List ℕ × BitWord). Some e.1) (entry_here slots k s below is (entry s))

pub seen_nowhere : (slots : List Slot) (p : List ℕ) → ((k : ℕ) → k < length (places (entries slots)) → get_or (places (entries slots)) k [] ≢ p) → get (seen_slots slots) p ≡ None
seen_nowhere slots p h = get-from_entries nat_list_cmp_total (entries slots) p ∙ found_nowhere (entries slots) p h

-- one slot is given another word
pub changed_seen : (slots new : List Slot) (k : ℕ) (p : List ℕ) (w : BitWord) → IsVector slots → k < length (places (entries slots)) → get_or (places (entries slots)) k [] ≡ p → entries new ≡ set (entries slots) k (get_or (places (entries slots)) k [], w) → seen_slots new ≡ insert (seen_slots slots) p w
changed_seen slots new k p w v less at written =
    ap mapped written
    ∙ ap (λ (q : List ℕ). mapped (set (entries slots) k (q, w))) at
    ∙ mapped_set (entries slots) k p w v.apart (omega (arith, length_entries slots, length_places slots)) at

pub changed : (slots new : List Slot) (k : ℕ) (p : List ℕ) (w : BitWord) → IsVector slots → k < length (places (entries slots)) → get_or (places (entries slots)) k [] ≡ p → entries new ≡ set (entries slots) k (get_or (places (entries slots)) k [], w) → (slice_index p 0 ≡ 1 → w.0 ≡ 1) → IsVector new
changed slots new k p w v less at written f = record {
  apart = subst Apart (sym (ap places written ∙ places_set (entries slots) k (get_or (places (entries slots)) k []) w refl)) v.apart;
  validity = subst BitsOfValidity (sym (changed_seen slots new k p w v less at written)) (validity_insert (seen_slots slots) p w v.validity f);
}

lacked : (slots : List Slot) (p : List ℕ) → IsVector slots → get (seen_slots slots) p ≡ None → (k : ℕ) → k < length (places (entries slots)) → get_or (places (entries slots)) k [] ≢ p
lacked slots p v none k less at =
    let here = found_at (entries slots) k p ([], (0, 0)) v.apart (omega (arith, length_entries slots, length_places slots)) at in
    let gone = sym (get-from_entries nat_list_cmp_total (entries slots) p) ∙ none in
    let both : Some (get_or (entries slots) k ([], (0, 0))).1 ≡ None = sym here ∙ gone in cc

-- the hashes stay with the places
pub changed_index : (hashes : List ℕ) (slots new : List Slot) (k : ℕ) (p : List ℕ) (w : BitWord) → Indexed hashes slots → k < length (places (entries slots)) → get_or (places (entries slots)) k [] ≡ p → entries new ≡ set (entries slots) k (get_or (places (entries slots)) k [], w) → (slice_index p 0 ≡ 1 → w.0 ≡ 1) → Indexed hashes new
changed_index hashes slots new k p w v less at written f = record {
  vector = changed slots new k p w v.vector less at written f;
  hashed = v.hashed ∙ sym (ap (map place_hash) (ap places written ∙ places_set (entries slots) k (get_or (places (entries slots)) k []) w refl));
}

-- one slot is added
pub added_seen : (slots : List Slot) (s : Slot) → IsVector slots → get (seen_slots slots) (slot_place s) ≡ None → seen_slots (slots ++ s ∷ []) ≡ insert (seen_slots slots) (slot_place s) (word s.value)
added_seen slots s v none =
    ap mapped (map_push entry slots s) ∙ mapped_push (entries slots) (slot_place s) (word s.value) (lacked slots (slot_place s) v none)

pub added : (slots : List Slot) (s : Slot) → IsVector slots → get (seen_slots slots) (slot_place s) ≡ None → (slice_index (slot_place s) 0 ≡ 1 → (word s.value).0 ≡ 1) → IsVector (slots ++ s ∷ [])
added slots s v none f = record {
  apart = subst Apart (sym (ap places (map_push entry slots s) ∙ map_push (λ (e : List ℕ × BitWord). e.0) (entries slots) (entry s))) (apart_push (places (entries slots)) (slot_place s) v.apart (lacked slots (slot_place s) v none));
  validity = subst BitsOfValidity (sym (added_seen slots s v none)) (validity_insert (seen_slots slots) (slot_place s) (word s.value) v.validity f);
}

pub has_place : (slots : List Slot) (m : Vectored) (k : ℕ) (p : List ℕ) → seen_slots slots ≡ m → IsVector slots → k < length (places (entries slots)) → get_or (places (entries slots)) k [] ≡ p → true ≡ contains_key m p
has_place slots m k p is v less at =
    ap is_some (sym (get-from_entries nat_list_cmp_total (entries slots) p ∙ found_at (entries slots) k p ([], (0, 0)) v.apart (omega (arith, length_entries slots, length_places slots)) at))
    ∙ ap (λ (n : Vectored). contains_key n p) is

pub lacks_place : (slots : List Slot) (m : Vectored) (p : List ℕ) → seen_slots slots ≡ m → ((k : ℕ) → k < length (places (entries slots)) → get_or (places (entries slots)) k [] ≢ p) → false ≡ contains_key m p
lacks_place slots m p is h = ap is_some (sym (seen_nowhere slots p h)) ∙ ap (λ (n : Vectored). contains_key n p) is

none_from : (o : Option BitWord) → is_some o ≡ false → o ≡ None
none_from None e = refl
none_from (Some w) e = cc

pub lacked_by : (slots : List Slot) (m : Vectored) (p : List ℕ) → seen_slots slots ≡ m → contains_key m p ≡ false → get (seen_slots slots) p ≡ None
lacked_by slots m p is e = ap (λ (n : Vectored). get n p) is ∙ none_from (get m p) e

pub added_index : (hashes : List ℕ) (slots : List Slot) (s : Slot) → Indexed hashes slots → get (seen_slots slots) (slot_place s) ≡ None → (slice_index (slot_place s) 0 ≡ 1 → (word s.value).0 ≡ 1) → Indexed (hashes ++ place_hash (slot_place s) ∷ []) (slots ++ s ∷ [])
added_index hashes slots s v none f = record {
  vector = added slots s v.vector none f;
  hashed =
      ap (λ (hs : List ℕ). hs ++ place_hash (slot_place s) ∷ []) v.hashed
      ∙ sym (ap (map place_hash) (ap places (map_push entry slots s) ∙ map_push (λ (e : List ℕ × BitWord). e.0) (entries slots) (entry s)) ∙ map_push place_hash (places (entries slots)) (slot_place s));
}
