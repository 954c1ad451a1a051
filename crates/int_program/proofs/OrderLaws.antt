-- Products, sums and quotients of whole numbers against their order.
use Rattle.std.proofs.Common.{◌≡◌, ℕ, ℤ, pos, negsuc, suc, ◌+◌, ◌*◌, ◌<◌, ◌≤◌, ◌+ℤ◌, ◌*ℤ◌, neg_ℤ, ◌≤ℤ◌, ◌<ℤ◌, arith, refl, ap}
use Rattle.std.proofs.lemmas.Int.{ints, by_lt_z}
use Rattle.std.proofs.Math.Nat.{mul-le-mul_left}
use Rattle.std.specs.Int.{int_div_euclid}
use borrow.Author.Differences.{up, down, le_out, lt_out, sum_is_lem}

pub mul_mono : (a b c : ℤ) → pos 0 ≤ℤ a → b ≤ℤ c → (a *ℤ b) ≤ℤ (a *ℤ c)
mul_mono (pos a) b c p h = omega (arith, ints, mul-le-mul_left a (le_out b c h))
mul_mono (negsuc a) b c p h = omega (arith, ints)

pub mul_anti : (a b c : ℤ) → a <ℤ pos 0 → b ≤ℤ c → (a *ℤ c) ≤ℤ (a *ℤ b)
mul_anti (pos a) b c p h = omega (arith, ints)
mul_anti (negsuc a) b c p h = omega (arith, ints, mul-le-mul_left (suc a) (le_out b c h))

pub mul_add : (a b c : ℤ) → a *ℤ (b +ℤ c) ≡ a *ℤ b +ℤ a *ℤ c
mul_add a b c =
    let e = sum_is_lem b c in
    omega (arith, ints, ap (λ t. up a * t) e, ap (λ t. down a * t) e)

pub add_mul : (a b c : ℤ) → (a +ℤ b) *ℤ c ≡ a *ℤ c +ℤ b *ℤ c
add_mul a b c =
    let e = sum_is_lem a b in
    omega (arith, ints, ap (λ t. t * up c) e, ap (λ t. t * down c) e)

-- the quotient q that rounds down has k * q ≤ a < k * q + k
pub div_parts : (a : ℤ) (k : ℕ) → 0 < k → (up (int_div_euclid a (pos k)) * k + down a ≤ down (int_div_euclid a (pos k)) * k + up a) × (down (int_div_euclid a (pos k)) * k + up a < up (int_div_euclid a (pos k)) * k + down a + k)
div_parts (pos a) k h = omega arith
div_parts (negsuc a) k h = omega arith

-- a whole number whose product with a positive number is at most z is at most the quotient rounded down
pub le_quotient : (z a v : ℤ) → pos 0 <ℤ a → (a *ℤ v) ≤ℤ z → v ≤ℤ int_div_euclid z a
le_quotient z (negsuc k) v p h = absurd (omega (arith, ints))
le_quotient z (pos k) v p h =
    let q = int_div_euclid z (pos k) in
    let some : 0 < k = omega (arith, ints) in
    let parts = div_parts z k some in
    by_lt_z q v (λ l. absurd (omega (arith, ints, parts, mul-le-mul_left k (lt_out q v l)))) (λ r. r)

pub div_by_negative : (z : ℤ) (k : ℕ) → int_div_euclid z (negsuc k) ≡ neg_ℤ (int_div_euclid z (pos (suc k)))
div_by_negative (pos z) k = refl
div_by_negative (negsuc z) k = refl

-- and by a negative number, at least the quotient rounded up
pub quotient_le : (z a v : ℤ) → a <ℤ pos 0 → (a *ℤ v) ≤ℤ z → int_div_euclid z a ≤ℤ v
quotient_le z (pos k) v p h = absurd (omega (arith, ints))
quotient_le z (negsuc k) v p h =
    let q = int_div_euclid z (pos (suc k)) in
    let parts = div_parts z (suc k) (omega arith) in
    let above : v <ℤ neg_ℤ q → up v + up q + 1 ≤ down v + down q = λ l. omega (arith, ints) in
    rw (div_by_negative z k) (by_lt_z v (neg_ℤ q) (λ l. absurd (omega (arith, ints, parts, mul-le-mul_left (suc k) (above l)))) (λ r. r))

-- and the other way round
quotient_times : (z a : ℤ) → pos 0 <ℤ a → (a *ℤ int_div_euclid z a) ≤ℤ z
quotient_times z (negsuc k) h = absurd (omega (arith, ints))
quotient_times z (pos k) h =
    let some : 0 < k = omega (arith, ints) in
    omega (arith, ints, div_parts z k some)

opposite : (k : ℕ) (q v : ℤ) → up v + up q ≡ down v + down q → negsuc k *ℤ v ≡ pos (suc k) *ℤ q
opposite k q v h =
    let e = ap (λ t. t * suc k) h in
    omega (arith, ints)

quotient_times_negative : (z a : ℤ) → a <ℤ pos 0 → (a *ℤ int_div_euclid z a) ≤ℤ z
quotient_times_negative z (pos k) h = absurd (omega (arith, ints))
quotient_times_negative z (negsuc k) h =
    let q = int_div_euclid z (pos (suc k)) in
    let sides : up (neg_ℤ q) + up q ≡ down (neg_ℤ q) + down q = omega (arith, ints) in
    rw (div_by_negative z k) (rw (opposite k q (neg_ℤ q) sides) (quotient_times z (pos (suc k)) (omega (arith, ints))))

pub times_le_from : (z a v : ℤ) → pos 0 <ℤ a → v ≤ℤ int_div_euclid z a → (a *ℤ v) ≤ℤ z
times_le_from z a v h k =
    let more = mul_mono a v (int_div_euclid z a) (omega (arith, ints)) k in
    let most = quotient_times z a h in
    omega (arith, ints)

pub times_le_negative : (z a v : ℤ) → a <ℤ pos 0 → int_div_euclid z a ≤ℤ v → (a *ℤ v) ≤ℤ z
times_le_negative z a v h k =
    let more = mul_anti a (int_div_euclid z a) v h k in
    let most = quotient_times_negative z a h in
    omega (arith, ints)
