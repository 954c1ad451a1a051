-- A counter by ones, one stage of several, and what a sum over the stages then is.
use Rattle.std.proofs.Common.{◌≡◌, ℕ, zero, suc, ◌+◌, ◌*◌, ◌<◌, ◌≤◌, Bool, true, false, cond, refl, sym, ap, ◌∙◌, arith, ⊎_elim, ◌≢◌}
use Rattle.std.specs.Prelude.{nat_eq, nat_lt}
use Rattle.std.proofs.lemmas.Bool.{eqb-true, ne_eqb, lt-ltb, le-ltb, eq-eqb, cases_lt}
use Rattle.elastic_ast.specs.Meaning.Values.{bit}
use Rattle.unroll_bound.specs.Counts.{numbers_below}
use Rattle.ilp_model.specs.PairOf.{last_one}
use Rattle.ilp_model.proofs.Totals.{sum_to}
use Rattle.ilp_model.proofs.Sums.{total_more, total_same, all_upto}

pub sum_same : (f g : ℕ → ℕ) (n : ℕ) → ((t : ℕ) → t < n → f t ≡ g t) → sum_to f n ≡ sum_to g n
sum_same f g n h = total_same f g (numbers_below n) (all_upto (λ t. f t ≡ g t) n h)

pub sum_none : (f : ℕ → ℕ) (n : ℕ) → ((t : ℕ) → t < n → f t ≡ 0) → sum_to f n ≡ 0
sum_none f zero h = refl
sum_none f (suc n) h = omega (arith, total_more f n, sum_none f n (λ t k. h t (omega arith)), h n (omega arith))

pub term_le_sum : (f : ℕ → ℕ) (n t : ℕ) → t < n → f t ≤ sum_to f n
term_le_sum f zero t k = absurd (omega arith)
term_le_sum f (suc n) t k = ⊎_elim (λ lt. omega (arith, total_more f n, term_le_sum f n t lt)) (λ le. let e : t ≡ n = omega arith in omega (arith, total_more f n, ap f e)) (cases_lt t n)

-- only the part at a counts
pub sum_at_one : (f : ℕ → ℕ) (n a : ℕ) → a < n → ((t : ℕ) → t < n → t ≢ a → f t ≡ 0) → sum_to f n ≡ f a
sum_at_one f zero a k h = absurd (omega arith)
sum_at_one f (suc n) a k h = ⊎_elim (λ lt. before lt (sum_at_one f n a lt (λ t q ne. h t (omega arith) ne))) last (cases_lt a n)
  where
    before : a < n → sum_to f n ≡ f a → sum_to f (suc n) ≡ f a
    before lt ih = omega (arith, total_more f n, ih, h n (omega arith) (omega arith))

    last : n ≤ a → sum_to f (suc n) ≡ f a
    last le =
        let e : a ≡ n = omega arith in
        omega (arith, total_more f n, sum_none f n (λ t q. h t (omega arith) (omega arith)), ap f e)

-- a sum of factors with once stage out of n is the factor there
pub pick : (f : ℕ → ℕ) (n a : ℕ) → a < n → sum_to (λ t. f t * bit (nat_eq a t)) n ≡ f a
pick f n a k =
    sum_at_one (λ t. f t * bit (nat_eq a t)) n a k (λ t q ne. other t ne)
    ∙ (let e = ap (λ b. f a * bit b) (eq-eqb a a refl) in omega (arith, e))
  where
    other : (t : ℕ) → t ≢ a → f t * bit (nat_eq a t) ≡ 0
    other t ne = let e = ap (λ b. f t * bit b) (ne_eqb a t (λ q. ne (sym q))) in omega (arith, e)

pub last_below : (f : ℕ → ℕ) (n : ℕ) → sum_to f n ≡ 1 → last_one f n < n
last_below f zero h = absurd (omega (arith, h))
last_below f (suc n) h = go (nat_eq (f n) 1) refl (λ e. last_below f n e)
  where
    go : (v : Bool) → nat_eq (f n) 1 ≡ v → (sum_to f n ≡ 1 → last_one f n < n) → cond v n (last_one f n) < suc n
    go true e ih = omega arith
    go false e ih =
        let ne : f n ≢ 1 = λ q. (let t = eq-eqb (f n) 1 q in cc) in
        let one : sum_to f n ≡ 1 = omega (arith, total_more f n, h, ne) in
        omega (arith, ih one)

pub one_of : (f : ℕ → ℕ) (n : ℕ) → sum_to f n ≡ 1 → (t : ℕ) → t < n → f t ≡ bit (nat_eq (last_one f n) t)
one_of f zero h t k = absurd (omega (arith, h))
one_of f (suc n) h t k = go (nat_eq (f n) 1) refl (λ e lt. one_of f n e t lt)
  where
    more : sum_to f (suc n) ≡ sum_to f n + f n
    more = total_more f n

    go : (v : Bool) → nat_eq (f n) 1 ≡ v → (sum_to f n ≡ 1 → t < n → f t ≡ bit (nat_eq (last_one f n) t)) → f t ≡ bit (nat_eq (cond v n (last_one f n)) t)
    go true e ih =
        let here = eqb-true (f n) 1 e in
        ⊎_elim (λ lt. (let small = term_le_sum f n t lt in let z : f t ≡ 0 = omega (arith, here, more, h, small) in z ∙ sym (ap bit (ne_eqb n t (omega arith)))))
        (λ le. (let q : t ≡ n = omega arith in let o : f t ≡ 1 = omega (arith, here, ap f q) in o ∙ sym (ap bit (eq-eqb n t (sym q)))))
        (cases_lt t n)
    go false e ih =
        let ne : f n ≢ 1 = λ q. (let t = eq-eqb (f n) 1 q in cc) in
        let one : sum_to f n ≡ 1 = omega (arith, more, h, ne) in
        ⊎_elim (λ lt. ih one lt)
        (λ le. (let q : t ≡ n = omega arith in
        let o : f t ≡ 0 = omega (arith, more, h, one, ap f q) in
        let below = last_below f n one in
        o ∙ sym (ap bit (ne_eqb (last_one f n) t (omega arith)))))
        (cases_lt t n)

-- a unary counter
down_from : (f : ℕ → ℕ) (n : ℕ) → ((i : ℕ) → i < n → f i ≤ 1) → ((i : ℕ) → i + 1 < n → f (i + 1) ≤ f i) → (m : ℕ) → m < n → 1 ≤ f m → (j : ℕ) → j < suc m → f j ≡ 1
down_from f n o d zero q l j k = let e : j ≡ 0 = omega arith in omega (arith, ap f e, o 0 q)
down_from f n o d (suc m) q l j k =
    let step : f (m + 1) ≤ f m = d m (omega arith) in
    let e : m + 1 ≡ suc m = omega arith in
    let low : 1 ≤ f m = omega (arith, step, ap f e) in
    ⊎_elim (λ lt. down_from f n o d m (omega arith) low j lt) (λ le. (let e : j ≡ suc m = omega arith in omega (arith, ap f e, o (suc m) q, l))) (cases_lt j (suc m))

ones_sum : (f : ℕ → ℕ) (m : ℕ) → ((j : ℕ) → j < m → f j ≡ 1) → sum_to f m ≡ m
ones_sum f zero q = refl
ones_sum f (suc m) q = omega (arith, total_more f m, ones_sum f m (λ j l. q j (omega arith)), q m (omega arith))

below_sum : (f : ℕ → ℕ) (m : ℕ) → ((j : ℕ) → j < m → f j ≤ 1) → sum_to f m ≤ m
below_sum f zero q = omega arith
below_sum f (suc m) q = omega (arith, total_more f m, below_sum f m (λ j l. q j (omega arith)), q m (omega arith))

pub counter_is : (f : ℕ → ℕ) (n z : ℕ) → ((i : ℕ) → i < n → f i ≤ 1) → ((i : ℕ) → i + 1 < n → f (i + 1) ≤ f i) → sum_to f n ≡ z → (i : ℕ) → i < n → f i ≡ bit (nat_lt i z)
counter_is f zero z o d h i k = absurd (omega arith)
counter_is f (suc n) z o d h i k = ⊎_elim full (λ l. part l (λ e lt. counter_is f n z (λ j q. o j (omega arith)) (λ j q. d j (omega arith)) e i lt)) (cases_lt 0 (f n))
  where
    more : sum_to f (suc n) ≡ sum_to f n + f n
    more = total_more f n

    full : 0 < f n → f i ≡ bit (nat_lt i z)
    full l =
        let all = down_from f (suc n) o d n (omega arith) (omega arith) in
        let e = ones_sum f (suc n) all in
        all i k ∙ sym (ap bit (lt-ltb i z (omega (arith, e, h))))

    part : f n ≤ 0 → (sum_to f n ≡ z → i < n → f i ≡ bit (nat_lt i z)) → f i ≡ bit (nat_lt i z)
    part l ih = ⊎_elim (λ lt. ih (omega (arith, more, h, l)) lt)
        (λ le. (let e : i ≡ n = omega arith in
        let small : z ≤ n = omega (arith, more, h, below_sum f n (λ j q. o j (omega arith))) in
        let none : f i ≡ 0 = omega (arith, ap f e, l) in
        none ∙ sym (ap bit (le-ltb i z (omega arith)))))
        (cases_lt i n)

-- and what it adds plus to
pub counter_sum : (n z : ℕ) → z ≤ n → sum_to (λ i. bit (nat_lt i z)) n ≡ z
counter_sum zero z h = omega arith
counter_sum (suc n) z h = ⊎_elim
    (λ lt. omega (arith, total_more (λ i. bit (nat_lt i z)) n, ap bit (lt-ltb n z lt), ones_sum (λ i. bit (nat_lt i z)) n (λ j q. ap bit (lt-ltb j z (omega arith)))))
    (λ le. omega (arith, total_more (λ i. bit (nat_lt i z)) n, ap bit (le-ltb n z le), counter_sum n z le))
    (cases_lt n z)
