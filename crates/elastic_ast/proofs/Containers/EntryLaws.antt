-- What a list of entries answers as a map, where no two have the same place.
use Rattle.std.proofs.Common.{◌≡◌, ◌≢◌, ℕ, suc, zero, ◌+◌, ◌<◌, Bool, true, false, cond, List, [], ◌∷◌, ◌++◌, length, set, get_or, Option, Some, None, refl, sym, ap, ◌∙◌, arith}
use Rattle.std.specs.Ordering.{nat_cmp, eq_by_cmp}
use Rattle.std.specs.Cmp.Lexicographic.{slice_cmp, nat_list_cmp_total}
use Rattle.std.specs.FinMap.{find, insert, from_entries, get-insert, get-from_entries, same_map, from_entries_push, IsAntisymmetric, nat_cmp-IsAntisymmetric, slice_cmp-IsAntisymmetric}
use Rattle.std.proofs.lemmas.Cmp.{eq_by_cmp_equiv}
use Rattle.std.proofs.lemmas.Map.Views.{tells_apart}
use Rattle.std.proofs.lemmas.List.{map-set, set-get_or, length-map, length_push}
use Rattle.elx_bits.specs.Words.{BitWord}
use Rattle.elastic_ast.specs.Containers.Slots.{places, Apart}
use Rattle.elastic_ast.specs.Containers.Vectors.{Vectored}

abbrev pub tied : List ℕ → List ℕ → Bool
tied = eq_by_cmp (slice_cmp nat_cmp)

abbrev pub found : List ℕ → List (List ℕ × BitWord) → Option BitWord
found = find (slice_cmp nat_cmp)

abbrev pub mapped : List (List ℕ × BitWord) → Vectored
mapped = from_entries

pub told : IsAntisymmetric (slice_cmp nat_cmp)
told = slice_cmp-IsAntisymmetric nat_cmp-IsAntisymmetric

pub tied_same : (p q : List ℕ) → p ≡ q → tied p q ≡ true
tied_same p q e = ap (tied p) (sym e) ∙ (eq_by_cmp_equiv nat_list_cmp_total).refl p

pub same_tied : (p q : List ℕ) → tied p q ≡ true → p ≡ q
same_tied p q e = tells_apart told p q e

apart_from : (p q : List ℕ) (b : Bool) → tied p q ≡ b → p ≢ q → b ≡ false
apart_from p q true e n = absurd (n (same_tied p q e))
apart_from p q false e n = refl

pub tied_apart : (p q : List ℕ) → p ≢ q → tied p q ≡ false
tied_apart p q n = apart_from p q _ refl n

pub apart_tail : (p : List ℕ) (ps : List (List ℕ)) → Apart (p ∷ ps) → Apart ps
apart_tail p ps a = record { one = λ i j h k e. omega (arith, a.one (suc i) (suc j) (omega arith) (omega arith) e) }

pub apart_head : (p : List ℕ) (ps : List (List ℕ)) (k : ℕ) → Apart (p ∷ ps) → k < length ps → p ≢ get_or ps k []
apart_head p ps k a h e = omega (arith, a.one 0 (suc k) (omega arith) (omega arith) e)

pub found_at : (known : List (List ℕ × BitWord)) (k : ℕ) (p : List ℕ) (d : List ℕ × BitWord) → Apart (places known) → k < length known → get_or (places known) k [] ≡ p → found p known ≡ Some (get_or known k d).1
found_at [] k p d a h e = absurd (omega arith)
found_at (x ∷ xs) zero p d a h e = rw (tied_same p x.0 (sym e)) refl
found_at (x ∷ xs) (suc k) p d a h e =
    let less : k < length (places xs) = omega (arith, length-map xs (λ (y : List ℕ × BitWord). y.0)) in
    let other : p ≢ x.0 = λ same. apart_head x.0 (places xs) k a less (sym same ∙ sym e) in
    rw (tied_apart p x.0 other) (found_at xs k p d (apart_tail x.0 (places xs) a) (omega arith) e)

pub found_nowhere : (known : List (List ℕ × BitWord)) (p : List ℕ) → ((k : ℕ) → k < length (places known) → get_or (places known) k [] ≢ p) → found p known ≡ None
found_nowhere [] p h = refl
found_nowhere (x ∷ xs) p h =
    rw (tied_apart p x.0 (λ e. h 0 (omega arith) (sym e))) (found_nowhere xs p (λ k less. h (suc k) (omega arith)))

shadowed : (b : Bool) (x y z : Option BitWord) → cond b x z ≡ cond b x (cond b y z)
shadowed true x y z = refl
shadowed false x y z = refl

pub swapped : (q p r : List ℕ) (x y z : Option BitWord) → p ≢ r → (b c : Bool) → tied q p ≡ b → tied q r ≡ c → cond b x (cond c y z) ≡ cond c y (cond b x z)
swapped q p r x y z n true true e f = absurd (n (sym (same_tied q p e) ∙ same_tied q r f))
swapped q p r x y z n true false e f = refl
swapped q p r x y z n false c e f = refl

pub found_set : (known : List (List ℕ × BitWord)) (k : ℕ) (p q : List ℕ) (w : BitWord) → Apart (places known) → k < length known → get_or (places known) k [] ≡ p → found q (set known k (p, w)) ≡ cond (tied q p) (Some w) (found q known)
found_set [] k p q w a h e = absurd (omega arith)
found_set (x ∷ xs) zero p q w a h e = rw e (shadowed (tied q p) (Some w) (Some x.1) (found q xs))
found_set (x ∷ xs) (suc k) p q w a h e =
    let less : k < length (places xs) = omega (arith, length-map xs (λ (y : List ℕ × BitWord). y.0)) in
    let other : x.0 ≢ p = λ same. apart_head x.0 (places xs) k a less (same ∙ sym e) in
    ap (cond (tied q x.0) (Some x.1)) (found_set xs k p q w (apart_tail x.0 (places xs) a) (omega arith) e)
    ∙ swapped q x.0 p (Some x.1) (Some w) (found q xs) other _ _ refl refl

-- a word in place of another is an insertion
pub mapped_set : (known : List (List ℕ × BitWord)) (k : ℕ) (p : List ℕ) (w : BitWord) → Apart (places known) → k < length known → get_or (places known) k [] ≡ p → mapped (set known k (p, w)) ≡ insert (mapped known) p w
mapped_set known k p w a h e =
    same_map nat_list_cmp_total told _ _ (λ q.
    get-from_entries nat_list_cmp_total (set known k (p, w)) q
    ∙ found_set known k p q w a h e
    ∙ sym (get-insert nat_list_cmp_total (mapped known) p w q ∙ ap (cond (tied q p) (Some w)) (get-from_entries nat_list_cmp_total known q)))

pub mapped_push : (known : List (List ℕ × BitWord)) (p : List ℕ) (w : BitWord) → ((k : ℕ) → k < length (places known) → get_or (places known) k [] ≢ p) → mapped (known ++ (p, w) ∷ []) ≡ insert (mapped known) p w
mapped_push known p w h = from_entries_push nat_list_cmp_total told known p w (found_nowhere known p h)

pub places_set : (known : List (List ℕ × BitWord)) (k : ℕ) (p : List ℕ) (w : BitWord) → get_or (places known) k [] ≡ p → places (set known k (p, w)) ≡ places known
places_set known k p w e =
    map-set (λ (y : List ℕ × BitWord). y.0) known k (p, w) ∙ ap (set (places known) k) (sym e) ∙ set-get_or (places known) k []

outside : (ps : List (List ℕ)) (p x : List ℕ) (j : ℕ) → ((k : ℕ) → k < length ps → x ≢ get_or ps k []) → x ≢ p → j < length ps + 1 → x ≢ get_or (ps ++ p ∷ []) j []
outside [] p x zero h n less = n
outside [] p x (suc j) h n less = absurd (omega arith)
outside (q ∷ ps) p x zero h n less = h 0 (omega arith)
outside (q ∷ ps) p x (suc j) h n less = outside ps p x j (λ k lower. h (suc k) (omega arith)) n (omega arith)

two_of : (ps : List (List ℕ)) (p : List ℕ) → Apart ps → ((k : ℕ) → k < length ps → get_or ps k [] ≢ p) → (i j : ℕ) → i < length ps + 1 → j < length ps + 1 → get_or (ps ++ p ∷ []) i [] ≡ get_or (ps ++ p ∷ []) j [] → i ≡ j
two_of [] p a h i j less lower e = omega arith
two_of (x ∷ ps) p a h zero zero less lower e = refl
two_of (x ∷ ps) p a h zero (suc j) less lower e =
    absurd (outside ps p x j (λ k below. apart_head x ps k a below) (h 0 (omega arith)) (omega arith) e)
two_of (x ∷ ps) p a h (suc i) zero less lower e =
    absurd (outside ps p x i (λ k below. apart_head x ps k a below) (h 0 (omega arith)) (omega arith) (sym e))
two_of (x ∷ ps) p a h (suc i) (suc j) less lower e =
    let rest : i ≡ j = two_of ps p (apart_tail x ps a) (λ k below. h (suc k) (omega arith)) i j (omega arith) (omega arith) e in
    omega arith

pub apart_push : (ps : List (List ℕ)) (p : List ℕ) → Apart ps → ((k : ℕ) → k < length ps → get_or ps k [] ≢ p) → Apart (ps ++ p ∷ [])
apart_push ps p a h = record { one = λ i j less lower e. two_of ps p a h i j (omega (arith, length_push ps p)) (omega (arith, length_push ps p)) e }
