-- Sums of products: of lists of coefficients that are added, negated or equal at all sizes, and of coefficients that aren't
-- negative.
use Rattle.std.proofs.Common.{◌≡◌, ℕ, zero, suc, Bool, true, false, List, [], ◌∷◌, length, map, get_or, refl, sym, ap, ◌∙◌, true≢false, arith, ℤ, pos, negsuc, ◌+ℤ◌, ◌*ℤ◌, neg_ℤ}
use Rattle.std.specs.Prelude.{◌≤ℤ◌}
use Rattle.std.specs.List.{list_all}
use Rattle.std.proofs.Math.IntN.{suc_ℤ-*ℤ, zero-*ℤ, *ℤ-zero, pos-*ℤ-pos}
use Rattle.std.proofs.lemmas.Int.{ints}
use Rattle.elastic_ast.specs.Sizes.SizeSums.{negated_if}
use Rattle.size_terms.specs.Rows.{dot, is_whole}
use Rattle.size_terms.proofs.SumLaws.{times_sum}
use Rattle.size_terms.proofs.TermLaws.{times_neg}

-- coefficients that a function gives
pub dot_nothing : (places sizes : List ℕ) → dot (map (λ place. pos 0) places) sizes ≡ pos 0
dot_nothing [] sizes = refl
dot_nothing (p ∷ places) [] = refl
dot_nothing (p ∷ places) (s ∷ sizes) = let e : pos s *ℤ pos 0 ≡ pos 0 = *ℤ-zero (pos s) in let ih = dot_nothing places sizes in omega (arith, ints, e, ih)

pub dot_sum : (f g : ℕ → ℤ) (places sizes : List ℕ) → dot (map (λ place. f place +ℤ g place) places) sizes ≡ dot (map f places) sizes +ℤ dot (map g places) sizes
dot_sum f g [] sizes = refl
dot_sum f g (p ∷ places) [] = refl
dot_sum f g (p ∷ places) (s ∷ sizes) = let e = times_sum s (f p) (g p) in let ih = dot_sum f g places sizes in omega (arith, ints, e, ih)

pub dot_neg : (f : ℕ → ℤ) (places sizes : List ℕ) → dot (map (λ place. neg_ℤ (f place)) places) sizes ≡ neg_ℤ (dot (map f places) sizes)
dot_neg f [] sizes = refl
dot_neg f (p ∷ places) [] = refl
dot_neg f (p ∷ places) (s ∷ sizes) = let e = times_neg s (f p) in let ih = dot_neg f places sizes in omega (arith, ints, e, ih)

pub dot_signed : (minus : Bool) (f : ℕ → ℤ) (places sizes : List ℕ) → dot (map (λ place. negated_if minus (f place)) places) sizes ≡ negated_if minus (dot (map f places) sizes)
dot_signed true f places sizes = dot_neg f places sizes
dot_signed false f places sizes = refl

-- sums that are equal at all sizes have the same coefficients and the same constant
dot_empty : (by : List ℤ) → dot by [] ≡ pos 0
dot_empty [] = refl
dot_empty (x ∷ by) = refl

once : (x : ℤ) → pos 1 *ℤ x ≡ x
once x = let e : pos 1 *ℤ x ≡ (pos 0 *ℤ x) +ℤ x = suc_ℤ-*ℤ (pos 0) x in let f : pos 0 *ℤ x ≡ pos 0 = zero-*ℤ x in omega (arith, ints, e, f)

pub same_constant : (a b : List ℤ) (k m : ℤ) → ((sizes : List ℕ) → dot a sizes +ℤ k ≡ dot b sizes +ℤ m) → k ≡ m
same_constant a b k m h = let e = dot_empty a in let f = dot_empty b in let g = h [] in omega (arith, ints, e, f, g)

pub same_coefficients : (a b : List ℤ) (k m : ℤ) → length a ≡ length b → ((sizes : List ℕ) → dot a sizes +ℤ k ≡ dot b sizes +ℤ m) → a ≡ b
same_coefficients [] [] k m n h = refl
same_coefficients [] (y ∷ b) k m n h = absurd (omega (arith, n))
same_coefficients (x ∷ a) [] k m n h = absurd (omega (arith, n))
same_coefficients (x ∷ a) (y ∷ b) k m n h = both first (same_coefficients a b k m (omega (arith, n)) rest)
  where
    both : x ≡ y → a ≡ b → x ∷ a ≡ y ∷ b
    both p q = ap (λ z. z ∷ a) p ∙ ap (λ z. y ∷ z) q

    first : x ≡ y
    first =
        let constant : k ≡ m = same_constant (x ∷ a) (y ∷ b) k m h in
        let here = h (1 ∷ []) in
        let e = dot_empty a in
        let f = dot_empty b in
        let u = once x in
        let v = once y in
        omega (arith, ints, constant, here, e, f, u, v)

    rest : (sizes : List ℕ) → dot a sizes +ℤ k ≡ dot b sizes +ℤ m
    rest sizes =
        let here = h (0 ∷ sizes) in
        let u : pos 0 *ℤ x ≡ pos 0 = zero-*ℤ x in
        let v : pos 0 *ℤ y ≡ pos 0 = zero-*ℤ y in
        omega (arith, ints, here, u, v)

-- a sum of products without negative coefficients
head_whole : (x : ℤ) (by : List ℤ) → list_all is_whole (x ∷ by) ≡ true → is_whole x ≡ true
head_whole (pos n) by h = refl
head_whole (negsuc n) by h = h

tail_whole : (x : ℤ) (by : List ℤ) → list_all is_whole (x ∷ by) ≡ true → list_all is_whole by ≡ true
tail_whole (pos n) by h = h
tail_whole (negsuc n) by h = absurd (true≢false (sym h))

product_whole : (s : ℕ) (x : ℤ) → is_whole x ≡ true → pos 0 ≤ℤ (pos s *ℤ x)
product_whole s (pos n) h = let e = pos-*ℤ-pos s n in omega (arith, ints, e)
product_whole s (negsuc n) h = absurd (true≢false (sym h))

dot_whole : (by : List ℤ) (sizes : List ℕ) → list_all is_whole by ≡ true → pos 0 ≤ℤ dot by sizes
dot_whole [] sizes h = omega (arith, ints)
dot_whole (x ∷ by) [] h = omega (arith, ints)
dot_whole (x ∷ by) (s ∷ sizes) h = let u = product_whole s x (head_whole x by h) in let ih = dot_whole by sizes (tail_whole x by h) in omega (arith, ints, u, ih)

-- each product is at most the sum
pub row_bounds_one : (by : List ℤ) (sizes : List ℕ) (place : ℕ) → list_all is_whole by ≡ true → (pos (get_or sizes place 0) *ℤ get_or by place (pos 0)) ≤ℤ dot by sizes
row_bounds_one [] sizes place h = omega (arith, ints)
row_bounds_one (x ∷ by) [] place h = omega (arith, ints)
row_bounds_one (x ∷ by) (s ∷ sizes) zero h = let u = dot_whole by sizes (tail_whole x by h) in omega (arith, ints, u)
row_bounds_one (x ∷ by) (s ∷ sizes) (suc place) h =
    let u = product_whole s x (head_whole x by h) in
    let ih = row_bounds_one by sizes place (tail_whole x by h) in
    omega (arith, ints, u, ih)
