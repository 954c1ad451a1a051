-- Words of at most 128 bits in numbers of 128 bits.
use Rattle.std.proofs.Common.{◌≡◌, ℕ, zero, suc, ◌+◌, ◌-◌, ◌*◌, ◌/◌, ◌%◌, ◌^◌, ◌<◌, ◌≤◌, sym, ap, subst, ◌∙◌, arith, lit<}
use Rattle.std.specs.Prelude.{bit_and, bit_or}
use Rattle.std.proofs.Math.Nat.{mul_assoc, add-mul-mod_self_right, mul-mod_left, mod-eq_of_lt, div-eq_of_lt, pow-le-pow_right}
use Rattle.std.proofs.Math.Pow.{mod-mod-pow}
use Rattle.std.proofs.lemmas.Nat.{and_mask, or_shifted, pow-add, pow_pos}
use Rattle.std.proofs.lemmas.Nat.Bits.{ones_shr}

-- the number whose bits are all 1
pub ones_law : (width : ℕ) → width ≤ 128 → (2 ^ 128 - 1) / 2 ^ (128 - width) + 1 ≡ 2 ^ width
ones_law width within =
    let shifted = ones_shr 128 (128 - width) (omega arith) in
    let left : 128 - (128 - width) ≡ width = omega arith in
    let power : 2 ^ (128 - (128 - width)) ≡ 2 ^ width = ap (λ n. 2 ^ n) left in
    let some = pow_pos width in
    omega (arith, shifted, power, some)

-- the lowest bits
pub low_law : (number ones width : ℕ) → ones + 1 ≡ 2 ^ width → bit_and number ones ≡ number % 2 ^ width
low_law number ones width e =
    let is : ones ≡ 2 ^ width - 1 = omega arith in
    ap (λ n. bit_and number n) is ∙ and_mask number width

-- the lowest bits of what is left of a number in 128 bits
pub cut_law : (number width : ℕ) → width ≤ 128 → number % 2 ^ 128 % 2 ^ width ≡ number % 2 ^ width
cut_law number width within =
    let whole : (128 - width) + width ≡ 128 = omega arith in
    ap (λ n. number % 2 ^ n % 2 ^ width) (sym whole) ∙ mod-mod-pow number (128 - width) width

-- the difference in 128 bits
pub sub_law : (a b width : ℕ) → width ≤ 128 → b < 2 ^ width → (a + (2 ^ 128 - b)) % 2 ^ width ≡ (a + (2 ^ width - b)) % 2 ^ width
sub_law a b width within small =
    let whole : (128 - width) + width ≡ 128 = omega arith in
    let power : 2 ^ 128 ≡ 2 ^ (128 - width) * 2 ^ width = ap (λ n. 2 ^ n) (sym whole) ∙ pow-add 2 (128 - width) width in
    let times : ℕ = 2 ^ (128 - width) - 1 in
    let more : 2 ^ 128 ≡ times * 2 ^ width + 2 ^ width = power ∙ one_more (2 ^ (128 - width)) (2 ^ width) (pow_pos (128 - width)) in
    let sum : a + (2 ^ 128 - b) ≡ (a + (2 ^ width - b)) + times * 2 ^ width = moved a b (2 ^ 128) (2 ^ width) (times * 2 ^ width) more small in
    ap (λ n. n % 2 ^ width) sum ∙ add-mul-mod_self_right (a + (2 ^ width - b)) times (2 ^ width)
  where
    one_more : (p m : ℕ) → 0 < p → p * m ≡ (p - 1) * m + m
    one_more zero m some = absurd (omega arith)
    one_more (suc p) m some = let e : suc p - 1 ≡ p = omega arith in let f : (suc p - 1) * m ≡ p * m = ap (λ n. n * m) e in omega (arith, f)

    moved : (a b whole m rest : ℕ) → whole ≡ rest + m → b < m → a + (whole - b) ≡ (a + (m - b)) + rest
    moved a b whole m rest e h = omega arith

-- moved up by the width or more
pub shl_past : (a width by : ℕ) → width ≤ by → 0 ≡ a * 2 ^ by % 2 ^ width
shl_past a width by past =
    let whole : (by - width) + width ≡ by = omega arith in
    let power : a * 2 ^ by ≡ a * 2 ^ (by - width) * 2 ^ width = ap (λ n. a * 2 ^ n) (sym whole) ∙ ap (λ n. a * n) (pow-add 2 (by - width) width) ∙ sym (mul_assoc a (2 ^ (by - width)) (2 ^ width)) in
    sym (ap (λ n. n % 2 ^ width) power ∙ mul-mod_left (a * 2 ^ (by - width)) (2 ^ width))

-- moved down by the width or more
pub shr_past : (a width by : ℕ) → a < 2 ^ width → width ≤ by → 0 ≡ a / 2 ^ by
shr_past a width by small past =
    let more : 2 ^ width ≤ 2 ^ by = pow-le-pow_right (omega arith) past in
    let less : a < 2 ^ by = omega arith in
    sym (div-eq_of_lt less)

-- two words behind one another
cat_less : (a b high low : ℕ) → a < 2 ^ high → b < 2 ^ low → a * 2 ^ low + b < 2 ^ (high + low)
cat_less a b high low x y = subst (λ n. a * 2 ^ low + b < n) (sym (pow-add 2 high low)) (below a b (2 ^ high) (2 ^ low) x y)
  where
    below : (a b m n : ℕ) → a < m → b < n → a * n + b < m * n
    below a b m n x y = grind arith

pub cat_law : (a b high low : ℕ) → a < 2 ^ high → b < 2 ^ low → high + low ≤ 128 → bit_or (a * 2 ^ low % 2 ^ 128) b ≡ a * 2 ^ low + b
cat_law a b high low x y fits =
    let more : 2 ^ (high + low) ≤ 2 ^ 128 = pow-le-pow_right (lit< tt) fits in
    let sum = cat_less a b high low x y in
    let less : a * 2 ^ low < 2 ^ 128 = omega (arith, more, sum) in
    ap (λ n. bit_or n b) (mod-eq_of_lt less) ∙ or_shifted a low b y

pub cat_fits : (a b high low : ℕ) → a < 2 ^ high → b < 2 ^ low → high + low ≤ 128 → bit_or (a * 2 ^ low % 2 ^ 128) b < 2 ^ (high + low)
cat_fits a b high low x y fits = subst (λ n. n < 2 ^ (high + low)) (sym (cat_law a b high low x y fits)) (cat_less a b high low x y)
