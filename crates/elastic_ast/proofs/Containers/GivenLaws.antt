-- Slots that are each given the word of a vector.
use Rattle.std.proofs.Common.{◌≡◌, ℕ, ◌+◌, ◌<◌, ◌≤◌, true, false, ◌||◌, cond, List, [], ◌∷◌, ◌++◌, length, map, set, take, drop, get_or, Option, Some, None, is_some, unwrap_or, refl, sym, ap, subst, ◌∙◌, arith, add-zero}
use Rattle.std.specs.FinMap.{get, get-from_entries, same_map}
use Rattle.std.specs.List.{list_any}
use Rattle.std.proofs.lemmas.List.{get_or-drop, take_more_set, map_more, drop-set-lt, drop-drop, take_all}
use Rattle.std.specs.Cmp.Lexicographic.{nat_list_cmp_total}
use Rattle.elx_bits.specs.Words.{BitWord}
use Rattle.elastic_ast.specs.declared.slot.Slot.{Slot}
use Rattle.elastic_ast.specs.Containers.Slots.{slot_place, entry, entries, places, seen_slots, word_from, Apart, IsVector, place_hash, Indexed}
use Rattle.elastic_ast.specs.Containers.Vectors.{Vectored, BitsOfValidity, SamePlaces}
use Rattle.elastic_ast.proofs.Containers.EntryLaws.{tied, same_tied, told, found, mapped}
use Rattle.elastic_ast.proofs.Containers.SlotLaws.{length_entries, place_here, entry_here}
use Rattle.elastic_ast.proofs.Containers.SameLaws.{has_by_places}

pub given_entry : (slots : List Slot) (k : ℕ) (s : Slot) (w : BitWord) (m : Vectored) → k < length slots → s ≡ get_or slots k s → w ≡ (word_from m (entry s)).1 → (get_or (places (entries slots)) k [], w) ≡ word_from m (entry s)
given_entry slots k s w m less is e =
    let at = place_here slots k s less is in
    ap (λ (p : List ℕ). (p, w)) at ∙ ap (λ (x : BitWord). (slot_place s, x)) e

same_here : (xs ys : List (List ℕ × BitWord)) (k : ℕ) (d : List ℕ × BitWord) → drop k xs ≡ drop k ys → get_or xs k d ≡ get_or ys k d
same_here xs ys k d e =
    ap (λ (n : ℕ). get_or xs n d) (sym (add-zero k))
    ∙ sym (get_or-drop k xs 0 d)
    ∙ ap (λ (es : List (List ℕ × BitWord)). get_or es 0 d) e
    ∙ get_or-drop k ys 0 d
    ∙ ap (λ (n : ℕ). get_or ys n d) (add-zero k)

-- one more slot is given the word of the vector
pub given_more : (slots first new : List Slot) (m : Vectored) (k : ℕ) (s : Slot) (w : BitWord) → take k (entries slots) ≡ map (word_from m) (take k (entries first)) → drop k (entries slots) ≡ drop k (entries first) → length slots ≡ length first → k < length first → s ≡ get_or slots k s → w ≡ (word_from m (entry (get_or slots k s))).1 → entries new ≡ set (entries slots) k (get_or (places (entries slots)) k [], w) → take (k + 1) (entries new) ≡ map (word_from m) (take (k + 1) (entries first))
given_more slots first new m k s w given left n less is e written =
    let below : k < length slots = omega arith in
    let here : get_or (entries first) k (entry s) ≡ entry s =
    same_here (entries first) (entries slots) k (entry s) (sym left) ∙ entry_here slots k s below is (entry s) in
    ap (take (k + 1)) written
    ∙ take_more_set (entries slots) k (get_or (places (entries slots)) k [], w) (omega (arith, length_entries slots))
    ∙ ap (λ (x : List ℕ × BitWord). take k (entries slots) ++ x ∷ []) (given_entry slots k s w m below is (e ∙ ap (λ (x : Slot). (word_from m (entry x)).1) (sym is)))
    ∙ ap (λ (es : List (List ℕ × BitWord)). es ++ word_from m (entry s) ∷ []) given
    ∙ ap (λ (x : List ℕ × BitWord). map (word_from m) (take k (entries first)) ++ word_from m x ∷ []) (sym here)
    ∙ sym (map_more (word_from m) (entries first) k (entry s) (omega (arith, length_entries first)))

pub left_more : (slots first new : List Slot) (k : ℕ) (e : List ℕ × BitWord) → drop k (entries slots) ≡ drop k (entries first) → entries new ≡ set (entries slots) k e → drop (k + 1) (entries new) ≡ drop (k + 1) (entries first)
left_more slots first new k e left written =
    ap (drop (k + 1)) written
    ∙ drop-set-lt (k + 1) (entries slots) k e (omega arith)
    ∙ sym (drop-drop 1 k (entries slots))
    ∙ ap (drop 1) left
    ∙ drop-drop 1 k (entries first)

pub all_given : (slots first : List Slot) (m : Vectored) (k : ℕ) → take k (entries slots) ≡ map (word_from m) (take k (entries first)) → length slots ≡ length first → length first ≤ k → entries slots ≡ map (word_from m) (entries first)
all_given slots first m k given n less =
    sym (take_all k (entries slots) (omega (arith, length_entries slots)))
    ∙ given
    ∙ ap (map (word_from m)) (take_all k (entries first) (omega (arith, length_entries first)))

found_taken : (known : List (List ℕ × BitWord)) (m : Vectored) (q : List ℕ) (w : BitWord) → get m q ≡ Some w → list_any (tied q) (places known) ≡ true → found q (map (word_from m) known) ≡ Some w
found_taken [] m q w at e = cc
found_taken (x ∷ xs) m q w at e =
    elim (tied q x.0) as (λ b. tied q x.0 ≡ b → (b || list_any (tied q) (places xs)) ≡ true → cond b (Some (unwrap_or (get m x.0) x.1)) (found q (map (word_from m) xs)) ≡ Some w) [
      | true ↦ λ t _. ap (λ (o : Option BitWord). Some (unwrap_or o x.1)) (ap (get m) (sym (same_tied q x.0 t)) ∙ at)
      | false ↦ λ _ f. found_taken xs m q w at f
    ] refl e

lost_taken : (known : List (List ℕ × BitWord)) (m : Vectored) (q : List ℕ) → list_any (tied q) (places known) ≡ false → found q (map (word_from m) known) ≡ None
lost_taken [] m q e = refl
lost_taken (x ∷ xs) m q e =
    elim (tied q x.0) as (λ b. (b || list_any (tied q) (places xs)) ≡ false → cond b (Some (unwrap_or (get m x.0) x.1)) (found q (map (word_from m) xs)) ≡ None) [
      | true ↦ λ f. cc
      | false ↦ λ f. lost_taken xs m q f
    ] e

answers : (known : List (List ℕ × BitWord)) (m : Vectored) (q : List ℕ) (o : Option BitWord) → get m q ≡ o → list_any (tied q) (places known) ≡ is_some o → found q (map (word_from m) known) ≡ o
answers known m q None at e = lost_taken known m q e
answers known m q (Some w) at e = found_taken known m q w at e

-- slots with the places of a vector, that are each given its word, stand for that vector
pub given_seen : (first new : List Slot) (old m : Vectored) → seen_slots first ≡ old → entries new ≡ map (word_from m) (entries first) → SamePlaces old m → seen_slots new ≡ m
given_seen first new old m is given same = same_map nat_list_cmp_total told _ _ (λ q.
    ap (λ (n : Vectored). get n q) (ap mapped given)
    ∙ get-from_entries nat_list_cmp_total (map (word_from m) (entries first)) q
    ∙ answers (entries first) m q (get m q) refl (sym (has_by_places first old q is) ∙ same q))

same_places : (known : List (List ℕ × BitWord)) (m : Vectored) → places (map (word_from m) known) ≡ places known
same_places [] m = refl
same_places (x ∷ xs) m = ap (λ (ps : List (List ℕ)). x.0 ∷ ps) (same_places xs m)

pub given_vector : (first new : List Slot) (old m : Vectored) → seen_slots first ≡ old → IsVector first → BitsOfValidity m → entries new ≡ map (word_from m) (entries first) → SamePlaces old m → IsVector new
given_vector first new old m is v wide given same = record {
  apart = subst Apart (sym (ap places given ∙ same_places (entries first) m)) v.apart;
  validity = subst BitsOfValidity (sym (given_seen first new old m is given same)) wide;
}

pub given_index : (hashes : List ℕ) (first new : List Slot) (old m : Vectored) → seen_slots first ≡ old → Indexed hashes first → BitsOfValidity m → entries new ≡ map (word_from m) (entries first) → SamePlaces old m → Indexed hashes new
given_index hashes first new old m is v wide given same = record {
  vector = given_vector first new old m is v.vector wide given same;
  hashed = v.hashed ∙ sym (ap (map place_hash) (ap places given ∙ same_places (entries first) m));
}
