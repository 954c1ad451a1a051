-- Vectors with the same places.
use Rattle.std.proofs.Common.{◌≡◌, ℕ, suc, ◌<◌, Bool, true, false, ◌||◌, ◌↔◌, IsTrue, List, [], ◌∷◌, length, get_or, Option, Some, None, is_some, option_map, refl, sym, ap, subst, ◌∙◌, arith}
use Rattle.std.specs.FinMap.{get, contains_key, get-from_entries}
use Rattle.std.specs.FinMap.Entries.{is_some-find}
use Rattle.std.specs.List.{list_any}
use Rattle.std.specs.Ordering.{nat_cmp}
use Rattle.std.specs.Cmp.Lexicographic.{slice_cmp, nat_list_cmp_total}
use Rattle.elx_bits.specs.declared.bits.Bits.{Bits}
use Rattle.elastic_ast.specs.declared.slot.Slot.{Slot}
use Rattle.elastic_ast.specs.Containers.Slots.{slot_place, entries, places, seen_slots, IsVector}
use Rattle.elastic_ast.specs.Containers.Vectors.{Vectored, SamePlaces}
use Rattle.elastic_ast.specs.Containers.BitWords.{word}
use Rattle.elastic_ast.proofs.Containers.EntryLaws.{tied, same_tied}
use Rattle.elastic_ast.proofs.Containers.SlotLaws.{place_here}
use Rattle.elastic_ast.proofs.Containers.VectorLaws.{has_place}

-- each of these places is one of the vector
abbrev pub HasAll : Vectored → List (List ℕ) → Type 0
HasAll m known = (k : ℕ) → k < length known → IsTrue (contains_key m (get_or known k []))

-- whether a vector has a place is told by the places alone
pub has_by_places : (slots : List Slot) (m : Vectored) (q : List ℕ) → seen_slots slots ≡ m → contains_key m q ≡ list_any (tied q) (places (entries slots))
has_by_places slots m q is =
    ap (λ (n : Vectored). contains_key n q) (sym is)
    ∙ ap is_some (get-from_entries nat_list_cmp_total (entries slots) q)
    ∙ is_some-find (slice_cmp nat_cmp) q (entries slots)

pub one_order_same : (a b : List Slot) (m n : Vectored) → seen_slots a ≡ m → seen_slots b ≡ n → places (entries a) ≡ places (entries b) → SamePlaces m n
one_order_same a b m n p q e = λ x. has_by_places a m x p ∙ ap (list_any (tied x)) e ∙ sym (has_by_places b n x q)

-- what holds of each of some places holds of each that is among them
among : (known : List (List ℕ)) (m : Vectored) (q : List ℕ) → HasAll m known → list_any (tied q) known ≡ true → contains_key m q ≡ true
among [] m q h e = cc
among (p ∷ ps) m q h e =
    elim (tied q p) as (λ b. tied q p ≡ b → (b || list_any (tied q) ps) ≡ true → contains_key m q ≡ true) [
      | true ↦ λ t _. ap (contains_key m) (same_tied q p t) ∙ h 0 (omega arith)
      | false ↦ λ _ f. among ps m q (λ k less. h (suc k) (omega arith)) f
    ] refl e

same_bools : (x y : Bool) → (x ≡ true → y ≡ true) → (y ≡ true → x ≡ true) → x ≡ y
same_bools true y f g = sym (f refl)
same_bools false true f g = g refl
same_bools false false f g = refl

pub all_from_same : (slots : List Slot) (m n : Vectored) → seen_slots slots ≡ m → IsVector slots → SamePlaces m n → HasAll n (places (entries slots))
all_from_same slots m n is v same =
    λ k less. sym (has_place slots m k _ is v less refl ∙ same (get_or (places (entries slots)) k []))

pub same_from_all : (a b : List Slot) (m n : Vectored) → seen_slots a ≡ m → seen_slots b ≡ n → HasAll n (places (entries a)) → HasAll m (places (entries b)) → SamePlaces m n
same_from_all a b m n p q f g = λ x. same_bools _ _
    (λ e. among (places (entries a)) n x f (sym (has_by_places a m x p) ∙ e))
    (λ e. among (places (entries b)) m x g (sym (has_by_places b n x q) ∙ e))

-- where all of the first list are there, the places of the vectors are the same exactly where all of the second are
pub told_by_second : (a b given second : List Slot) (m n : Vectored) (r : Bool) → given ≡ a → second ≡ b → seen_slots a ≡ m → seen_slots b ≡ n → IsVector b → HasAll n (places (entries given)) → (IsTrue r ↔ HasAll m (places (entries second))) → IsTrue r ↔ SamePlaces m n
told_by_second a b given second m n r e f p q v h said = (
  λ t. same_from_all a b m n p q (subst (λ (s : List Slot). HasAll n (places (entries s))) e h) (subst (λ (s : List Slot). HasAll m (places (entries s))) f (said.0 t)),
  λ same. said.1 (subst (λ (s : List Slot). HasAll m (places (entries s))) (sym f) (all_from_same b n m q v (λ x. sym (same x)))),
)

pub told_by_first : (a given : List Slot) (m n : Vectored) (r : Bool) → given ≡ a → seen_slots a ≡ m → IsVector a → r ≡ false → (IsTrue r ↔ HasAll n (places (entries given))) → IsTrue r ↔ SamePlaces m n
told_by_first a given m n r e p v refused said = (
  λ t. absurd (let both : true ≡ false = sym t ∙ refused in cc),
  λ same. said.1 (subst (λ (s : List Slot). HasAll n (places (entries s))) (sym e) (all_from_same a m n p v same)),
)

is_some_word : (r : Option Bits) → is_some (option_map word r) ≡ is_some r
is_some_word None = refl
is_some_word (Some b) = refl

-- what a look-up at a slot's location says of its place
pub asked : (slots : List Slot) (m : Vectored) (k : ℕ) (s : Slot) (r : Option Bits) (b : Bool) → k < length slots → s ≡ get_or slots k s → option_map word r ≡ get m (slot_place s) → is_some r ≡ b → contains_key m (get_or (places (entries slots)) k []) ≡ b
asked slots m k s r b less is at e =
    ap (contains_key m) (place_here slots k s less is) ∙ ap is_some (sym at) ∙ is_some_word r ∙ e
