-- Sums with one coefficient a symbol: what a change of one coefficient changes.
use Rattle.std.proofs.Common.{◌≡◌, ℕ, zero, suc, ◌+◌, ◌-◌, ◌^◌, ◌<◌, ◌≤◌, Bool, true, false, cond, List, [], ◌∷◌, length, get_or, Option, Some, None, refl, sym, ap, ◌∙◌, arith, ℤ, pos, ◌+ℤ◌, ◌*ℤ◌}
use Rattle.std.specs.Prelude.{if◌then◌else◌, unsigned_abs}
use Rattle.std.specs.List.{position_from}
use Rattle.std.proofs.Math.ListN.{set, length-set}
use Rattle.std.proofs.Math.IntN.{suc_ℤ-*ℤ, zero-*ℤ}
use Rattle.std.proofs.lemmas.Int.{ints, to_z-of_z, fits_signed_from_abs}
use Rattle.std.specs.Int.RustNames.{FitsSigned}
use mir.Val.{to_z, of_z}
use mir.Syntax.{w128}
use Rattle.elastic_ast.specs.Tree.{Name}
use Rattle.elastic_ast.specs.Typing.Scope.{same}
use Rattle.elastic_ast.specs.Sizes.SizeSums.{size_of}
use Rattle.size_terms.specs.Places.{place_of}
use Rattle.size_terms.specs.declared.sums.Sum.{Sum}
use Rattle.size_terms.specs.Rows.{dot, coefficient_weight}
use Rattle.size_terms.specs.Growth.{Grows}

-- a place is within the symbols
pub within_from : (n : Name) (k : ℕ) (symbols : List Name) (p : ℕ) → position_from (same n) k symbols ≡ Some p → (k ≤ p) × (p < k + length symbols)
within_from n k [] p h = cc
within_from n k (m ∷ ms) p h = by (same n m) h (within_from n (k + 1) ms p)
  where
    by : (b : Bool) → cond b (Some k) (position_from (same n) (k + 1) ms) ≡ Some p → (position_from (same n) (k + 1) ms ≡ Some p → (k + 1 ≤ p) × (p < k + 1 + length ms)) → (k ≤ p) × (p < k + length (m ∷ ms))
    by true e ih = let q : k ≡ p = cc in (omega arith, omega arith)
    by false e ih = let q : (k + 1 ≤ p) × (p < k + 1 + length ms) = ih e in (omega (arith, q.0), omega (arith, q.1))

pub place_within : (symbols : List Name) (n : Name) (p : ℕ) → Some p ≡ place_of symbols n → p < length symbols
place_within symbols n p h = let q = (within_from n 0 symbols p (sym h)).1 in omega (arith, q)

-- the size that stands at a place
at_place : ℕ → List ℕ → Option ℕ → ℕ
at_place k sizes None = 0
at_place k sizes (Some p) = get_or sizes (p - k) 0

size_from : (n : Name) (k : ℕ) (symbols : List Name) (sizes : List ℕ) → size_of symbols sizes n ≡ at_place k sizes (position_from (same n) k symbols)
unfolding at_place
size_from n k [] sizes = refl
size_from n k (m ∷ ms) [] = nothing (position_from (same n) k (m ∷ ms))
  where
    nothing : (o : Option ℕ) → 0 ≡ at_place k [] o
    nothing None = refl
    nothing (Some p) = refl
size_from n k (m ∷ ms) (s ∷ sizes) = by (same n m) (size_from n (k + 1) ms sizes) (within_from n (k + 1) ms)
  where
    first : (x : ℕ) → x ≡ 0 → s ≡ get_or (s ∷ sizes) x 0
    first x e = ap (λ i. get_or (s ∷ sizes) i 0) (sym e)

    later : (o : Option ℕ) → ((p : ℕ) → o ≡ Some p → (k + 1 ≤ p) × (p < k + 1 + length ms)) → at_place (k + 1) sizes o ≡ at_place k (s ∷ sizes) o
    later None w = refl
    later (Some p) w = let q = (w p refl).0 in let e : p - k ≡ suc (p - (k + 1)) = omega (arith, q) in sym (ap (λ i. get_or (s ∷ sizes) i 0) e)

    by : (b : Bool) → size_of ms sizes n ≡ at_place (k + 1) sizes (position_from (same n) (k + 1) ms) → ((p : ℕ) → position_from (same n) (k + 1) ms ≡ Some p → (k + 1 ≤ p) × (p < k + 1 + length ms))
        → (if b then s else size_of ms sizes n) ≡ at_place k (s ∷ sizes) (cond b (Some k) (position_from (same n) (k + 1) ms))
    by true ih w = first (k - k) (omega arith)
    by false ih w = ih ∙ later (position_from (same n) (k + 1) ms) w

pub size_there : (symbols : List Name) (sizes : List ℕ) (n : Name) (p : ℕ) → Some p ≡ place_of symbols n → size_of symbols sizes n ≡ get_or sizes p 0
unfolding at_place
size_there symbols sizes n p h = size_from n 0 symbols sizes ∙ ap (at_place 0 sizes) (sym h) ∙ ap (λ i. get_or sizes i 0) (omega arith)

pub size_nowhere : (symbols : List Name) (sizes : List ℕ) (n : Name) → None ≡ place_of symbols n → size_of symbols sizes n ≡ 0
unfolding at_place
size_nowhere symbols sizes n h = size_from n 0 symbols sizes ∙ ap (at_place 0 sizes) (sym h)

-- products
pub times_sum : (n : ℕ) (a c : ℤ) → pos n *ℤ (a +ℤ c) ≡ (pos n *ℤ a) +ℤ (pos n *ℤ c)
times_sum zero a c = zero-*ℤ (a +ℤ c) ∙ sym (let u : pos 0 *ℤ a ≡ pos 0 = zero-*ℤ a in let v : pos 0 *ℤ c ≡ pos 0 = zero-*ℤ c in omega (arith, ints, u, v))
times_sum (suc n) a c =
    let e : pos (suc n) *ℤ (a +ℤ c) ≡ (pos n *ℤ (a +ℤ c)) +ℤ (a +ℤ c) = suc_ℤ-*ℤ (pos n) (a +ℤ c) in
    let f : pos (suc n) *ℤ a ≡ (pos n *ℤ a) +ℤ a = suc_ℤ-*ℤ (pos n) a in
    let g : pos (suc n) *ℤ c ≡ (pos n *ℤ c) +ℤ c = suc_ℤ-*ℤ (pos n) c in
    let ih = times_sum n a c in
    omega (arith, ints, e, f, g, ih)

-- one more at a place
pub dot_set : (by : List ℤ) (sizes : List ℕ) (i : ℕ) (x : ℤ) → i < length by → dot (set by i (get_or by i (pos 0) +ℤ x)) sizes ≡ dot by sizes +ℤ (pos (get_or sizes i 0) *ℤ x)
dot_set [] sizes i x h = absurd (omega arith)
dot_set (a ∷ by) [] zero x h = let u : pos 0 *ℤ x ≡ pos 0 = zero-*ℤ x in omega (arith, ints, u)
dot_set (a ∷ by) [] (suc i) x h = let u : pos 0 *ℤ x ≡ pos 0 = zero-*ℤ x in omega (arith, ints, u)
dot_set (a ∷ by) (s ∷ sizes) zero x h = let u = times_sum s a x in omega (arith, ints, u)
dot_set (a ∷ by) (s ∷ sizes) (suc i) x h = let ih = dot_set by sizes i x (omega arith) in omega (arith, ints, ih)

pub weight_at : (by : List ℤ) (i : ℕ) → unsigned_abs (get_or by i (pos 0)) ≤ coefficient_weight by
weight_at [] i = omega arith
weight_at (a ∷ by) zero = omega arith
weight_at (a ∷ by) (suc i) = let ih = weight_at by i in omega (arith, ih)

abs_sum : (a x : ℤ) → unsigned_abs (a +ℤ x) ≤ unsigned_abs a + unsigned_abs x
abs_sum a x = grind (arith, ints)

pub weight_set : (by : List ℤ) (i : ℕ) (x : ℤ) → coefficient_weight (set by i (get_or by i (pos 0) +ℤ x)) ≤ coefficient_weight by + unsigned_abs x
weight_set [] i x = omega arith
weight_set (a ∷ by) zero x = let u = abs_sum a x in omega (arith, u)
weight_set (a ∷ by) (suc i) x = let ih = weight_set by i x in omega (arith, ih)

-- sums of small numbers fit
pub fits_small : (z : ℤ) → unsigned_abs z < 2 ^ 100 → FitsSigned w128 z
fits_small z h = fits_signed_from_abs w128 z (omega arith)

pub fits_sum : (a x : ℤ) → unsigned_abs a + unsigned_abs x < 2 ^ 100 → FitsSigned w128 (a +ℤ x)
fits_sum a x h = let u = abs_sum a x in fits_small (a +ℤ x) (omega (arith, u))

pub sum_is : (a x : ℤ) → unsigned_abs a + unsigned_abs x < 2 ^ 100 → to_z w128 (of_z w128 a) +ℤ to_z w128 (of_z w128 x) ≡ a +ℤ x
sum_is a x h =
    let e : to_z w128 (of_z w128 a) ≡ a = to_z-of_z w128 a (fits_small a (omega arith)) in
    let f : to_z w128 (of_z w128 x) ≡ x = to_z-of_z w128 x (fits_small x (omega arith)) in
    ap (λ z. z +ℤ to_z w128 (of_z w128 x)) e ∙ ap (λ z. a +ℤ z) f

-- three numbers added up, as they are computed
pub sum_of_three : (a x y : ℤ) → unsigned_abs a + unsigned_abs x + unsigned_abs y < 2 ^ 100
    → to_z w128 (of_z w128 (to_z w128 (of_z w128 (to_z w128 (of_z w128 a) +ℤ to_z w128 (of_z w128 x))) +ℤ to_z w128 (of_z w128 y))) ≡ (a +ℤ x) +ℤ y
sum_of_three a x y h =
    let both : unsigned_abs (a +ℤ x) ≤ unsigned_abs a + unsigned_abs x = abs_sum a x in
    let first = ap (λ z. to_z w128 (of_z w128 z)) (sum_is a x (omega arith)) ∙ to_z-of_z w128 (a +ℤ x) (fits_sum a x (omega arith)) in
    let last = to_z-of_z w128 y (fits_small y (omega arith)) in
    ap (λ z. to_z w128 (of_z w128 (z +ℤ to_z w128 (of_z w128 y)))) first ∙ ap (λ z. to_z w128 (of_z w128 ((a +ℤ x) +ℤ z))) last ∙ to_z-of_z w128 ((a +ℤ x) +ℤ y) (fits_sum (a +ℤ x) y (omega (arith, both)))

pub any_default : (xs : List ℤ) (i : ℕ) (d e : ℤ) → i < length xs → get_or xs i d ≡ get_or xs i e
any_default [] i d e h = absurd (omega arith)
any_default (x ∷ xs) zero d e h = refl
any_default (x ∷ xs) (suc i) d e h = any_default xs i d e (omega arith)

-- a sum with one coefficient changed
pub grows_at : (symbols : List Name) (old new : Sum) (n : Name) (p : ℕ) (r number y : ℤ) → Some p ≡ place_of symbols n → length old.by.items ≡ length symbols → r ≡ get_or old.by.items p r → y ≡ r +ℤ number
    → new.by.items ≡ set old.by.items p y → new.constant ≡ old.constant → Grows old new (λ sizes. pos (size_of symbols sizes n) *ℤ number) (unsigned_abs number)
grows_at symbols old new n p r number y place dense here sum at kept =
    let within : p < length old.by.items = let q = place_within symbols n p place in omega (arith, q, dense) in
    let value : r ≡ get_or old.by.items p (pos 0) = here ∙ any_default old.by.items p r (pos 0) within in
    let changed : new.by.items ≡ set old.by.items p (get_or old.by.items p (pos 0) +ℤ number) = at ∙ ap (set old.by.items p) (sum ∙ ap (λ z. z +ℤ number) value) in
    record {
      worth = λ sizes.
          let e : dot new.by.items sizes ≡ dot old.by.items sizes +ℤ (pos (get_or sizes p 0) *ℤ number) = ap (λ z. dot z sizes) changed ∙ dot_set old.by.items sizes p number within in
          let f : pos (get_or sizes p 0) *ℤ number ≡ pos (size_of symbols sizes n) *ℤ number = ap (λ z. pos z *ℤ number) (sym (size_there symbols sizes n p place)) in
          omega (arith, ints, e, f, kept);
      dense = ap length changed ∙ length-set old.by.items p (get_or old.by.items p (pos 0) +ℤ number);
      bulky =
          let e : coefficient_weight new.by.items ≡ coefficient_weight (set old.by.items p (get_or old.by.items p (pos 0) +ℤ number)) = ap coefficient_weight changed in
          let f = weight_set old.by.items p number in
          let g : unsigned_abs new.constant ≡ unsigned_abs old.constant = ap unsigned_abs kept in
          omega (arith, e, f, g);
    }

-- a sum to which nothing is added
pub grows_nowhere : (symbols : List Name) (sum : Sum) (n : Name) (number : ℤ) → None ≡ place_of symbols n → Grows sum sum (λ sizes. pos (size_of symbols sizes n) *ℤ number) (unsigned_abs number)
grows_nowhere symbols sum n number place = record {
  worth = λ sizes.
      let e : pos (size_of symbols sizes n) *ℤ number ≡ pos 0 *ℤ number = ap (λ z. pos z *ℤ number) (size_nowhere symbols sizes n place) in
      let f : pos 0 *ℤ number ≡ pos 0 = zero-*ℤ number in
      omega (arith, ints, e, f);
  dense = refl;
  bulky = omega arith;
}
