-- Dot products as they are computed: nothing leaves 128 bits.
use Rattle.std.proofs.Common.{◌≡◌, ℕ, zero, suc, ◌+◌, ◌*◌, ◌^◌, ◌<◌, ◌≤◌, List, [], ◌∷◌, length, drop, get_or, refl, sym, ap, subst, ◌∙◌, arith, ℤ, pos, ◌+ℤ◌, ◌*ℤ◌}
use Rattle.std.specs.Prelude.{unsigned_abs}
use Rattle.std.proofs.lemmas.Int.{ints, to_z-of_z, unsigned_abs-mul}
use mir.Val.{to_z, of_z}
use mir.Syntax.{w128}
use Rattle.program_names.proofs.Items.{drop_step}
use Rattle.size_terms.specs.Rows.{dot, coefficient_weight}
use Rattle.size_terms.proofs.SumLaws.{fits_small, fits_sum}

-- a size of 64 bits times a small coefficient
pub product_below : (size : ℕ) (by : ℤ) → size < 2 ^ 64 → unsigned_abs (pos size *ℤ by) ≤ unsigned_abs by * 2 ^ 64
product_below size by h =
    let e : unsigned_abs (pos size *ℤ by) ≡ size * unsigned_abs by = unsigned_abs-mul (pos size) by in
    let f : size * unsigned_abs by ≤ 2 ^ 64 * unsigned_abs by = grind arith in
    omega (arith, e, f)

-- one more product
dot_step : (by : List ℤ) (sizes : List ℕ) (i : ℕ) → i < length by → i < length sizes → dot (drop i by) (drop i sizes) ≡ (pos (get_or sizes i 0) *ℤ get_or by i (pos 0)) +ℤ dot (drop (i + 1) by) (drop (i + 1) sizes)
dot_step by sizes i h k =
    ap (λ z. dot z (drop i sizes)) (drop_step by i (get_or by i (pos 0)) h (here_z by i)) ∙ ap (λ z. dot (get_or by i (pos 0) ∷ drop (i + 1) by) z) (drop_step sizes i (get_or sizes i 0) k (here_n sizes i))
  where
    here_z : (xs : List ℤ) (i : ℕ) → get_or xs i (pos 0) ≡ get_or xs i (get_or xs i (pos 0))
    here_z [] i = refl
    here_z (x ∷ xs) zero = refl
    here_z (x ∷ xs) (suc i) = here_z xs i

    here_n : (xs : List ℕ) (i : ℕ) → get_or xs i 0 ≡ get_or xs i (get_or xs i 0)
    here_n [] i = refl
    here_n (x ∷ xs) zero = refl
    here_n (x ∷ xs) (suc i) = here_n xs i

weight_step : (by : List ℤ) (i : ℕ) → i < length by → coefficient_weight (drop i by) ≡ unsigned_abs (get_or by i (pos 0)) + coefficient_weight (drop (i + 1) by)
weight_step by i h = ap coefficient_weight (drop_step by i (get_or by i (pos 0)) h (here by i))
  where
    here : (xs : List ℤ) (i : ℕ) → get_or xs i (pos 0) ≡ get_or xs i (get_or xs i (pos 0))
    here [] i = refl
    here (x ∷ xs) zero = refl
    here (x ∷ xs) (suc i) = here xs i

-- what the sum is after one more product, and what is left of its bound
pub record Sums (by : List ℤ) (sizes : List ℕ) (i : ℕ) (sum : ℤ) : Type 0 where
  pub value : sum +ℤ dot (drop i by) (drop i sizes) ≡ dot by sizes
  pub most : unsigned_abs sum + coefficient_weight (drop i by) * 2 ^ 64 ≤ coefficient_weight by * 2 ^ 64

pub sums_step : (by : List ℤ) (sizes : List ℕ) (i : ℕ) (sum product : ℤ) → i < length by → length by ≡ length sizes → coefficient_weight by ≤ 64000000000 → get_or sizes i 0 < 2 ^ 64
    → product ≡ pos (get_or sizes i 0) *ℤ to_z w128 (of_z w128 (get_or by i (pos 0))) → Sums by sizes i sum → Sums by sizes (i + 1) (to_z w128 (of_z w128 (sum +ℤ to_z w128 (of_z w128 product))))
sums_step by sizes i sum product h dense small size e inv =
    let b : ℤ = get_or by i (pos 0) in
    let w : coefficient_weight (drop i by) ≡ unsigned_abs b + coefficient_weight (drop (i + 1) by) = weight_step by i h in
    let w2 : coefficient_weight (drop i by) * 2 ^ 64 ≡ unsigned_abs b * 2 ^ 64 + coefficient_weight (drop (i + 1) by) * 2 ^ 64 = ap (λ z. z * 2 ^ 64) w ∙ spread (unsigned_abs b) (coefficient_weight (drop (i + 1) by)) in
    let near : unsigned_abs b ≤ 64000000000 = omega (arith, w, w2, inv.most, small) in
    let p : product ≡ pos (get_or sizes i 0) *ℤ b = e ∙ ap (λ z. pos (get_or sizes i 0) *ℤ z) (to_z-of_z w128 b (fits_small b (omega (arith, near)))) in
    let q : unsigned_abs product ≤ unsigned_abs b * 2 ^ 64 = subst (λ (z : ℤ). unsigned_abs z ≤ unsigned_abs b * 2 ^ 64) (sym p) (product_below (get_or sizes i 0) b size) in
    let room : unsigned_abs sum + unsigned_abs product < 2 ^ 100 = omega (arith, w2, inv.most, small, q) in
    let passed : to_z w128 (of_z w128 product) ≡ product = to_z-of_z w128 product (fits_small product (omega (arith, room))) in
    let fits = fits_sum sum product room in
    let new : to_z w128 (of_z w128 (sum +ℤ to_z w128 (of_z w128 product))) ≡ sum +ℤ product = ap (λ z. to_z w128 (of_z w128 (sum +ℤ z))) passed ∙ to_z-of_z w128 (sum +ℤ product) fits in
    let d : dot (drop i by) (drop i sizes) ≡ (pos (get_or sizes i 0) *ℤ b) +ℤ dot (drop (i + 1) by) (drop (i + 1) sizes) = dot_step by sizes i h (omega (arith, h, dense)) in
    let both : unsigned_abs (sum +ℤ product) ≤ unsigned_abs sum + unsigned_abs product = abs_sum sum product in
    record {
      value = omega (arith, ints, new, p, d, inv.value);
      most = let n : unsigned_abs (to_z w128 (of_z w128 (sum +ℤ to_z w128 (of_z w128 product)))) ≡ unsigned_abs (sum +ℤ product) = ap unsigned_abs new in omega (arith, n, both, q, w2, inv.most);
    }
  where
    spread : (a b : ℕ) → (a + b) * 2 ^ 64 ≡ a * 2 ^ 64 + b * 2 ^ 64
    spread a b = omega arith

    abs_sum : (a x : ℤ) → unsigned_abs (a +ℤ x) ≤ unsigned_abs a + unsigned_abs x
    abs_sum a x = grind (arith, ints)
