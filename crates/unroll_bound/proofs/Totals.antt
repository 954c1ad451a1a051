-- Sums over lists by recursion, and what holds of each element.
use Rattle.std.proofs.Common.{◌≡◌, ℕ, zero, suc, ◌+◌, ◌*◌, ◌<◌, ◌≤◌, Bool, cond, nat_eq, List, [], ◌∷◌, ◌++◌, map, refl, ap, ◌∙◌, arith, ⊎_elim}
use Rattle.std.specs.Prelude.{sum_by}
use Rattle.std.specs.List.{AllByRecursion}
use Rattle.std.proofs.lemmas.List.Sums.{sum_by-cons}
use Rattle.std.proofs.lemmas.Bool.{eq-eqb, ne_eqb, cases_lt}
use Rattle.elastic_ast.specs.Units.Instances.{each_turn}

-- each element
pub each_more : {A : Type 0} (P Q : A → Type 0) → ((x : A) → P x → Q x) → (xs : List A) → AllByRecursion P xs → AllByRecursion Q xs
each_more P Q f [] h = tt
each_more P Q f (x ∷ xs) h = (f x h.0, each_more P Q f xs h.1)

pub each_two : {A : Type 0} (P Q R : A → Type 0) → ((x : A) → P x → Q x → R x) → (xs : List A) → AllByRecursion P xs → AllByRecursion Q xs → AllByRecursion R xs
each_two P Q R f [] h k = tt
each_two P Q R f (x ∷ xs) h k = (f x h.0 k.0, each_two P Q R f xs h.1 k.1)

pub each_any : {A : Type 0} (P : A → Type 0) → ((x : A) → P x) → (xs : List A) → AllByRecursion P xs
each_any P f [] = tt
each_any P f (x ∷ xs) = (f x, each_any P f xs)

pub each_append : {A : Type 0} (P : A → Type 0) (xs ys : List A) → AllByRecursion P xs → AllByRecursion P ys → AllByRecursion P (xs ++ ys)
each_append P [] ys h k = k
each_append P (x ∷ xs) ys h k = (h.0, each_append P xs ys h.1 k)

pub each_mapped : {A B : Type 0} (f : A → B) (P : B → Type 0) (xs : List A) → AllByRecursion (λ x. P (f x)) xs → AllByRecursion P (map f xs)
each_mapped f P [] h = tt
each_mapped f P (x ∷ xs) h = (h.0, each_mapped f P xs h.1)

-- a number for each element, added up
abbrev pub total : {A : Type 0} → (A → ℕ) → List A → ℕ
total f [] = 0
total f (x ∷ xs) = f x + total f xs

pub sum_is_total : {A : Type 0} (f : A → ℕ) (xs : List A) → sum_by f xs ≡ total f xs
sum_is_total f [] = refl
sum_is_total f (x ∷ xs) = sum_by-cons f x xs ∙ ap (λ n. f x + n) (sum_is_total f xs)

pub total-append : {A : Type 0} (f : A → ℕ) (xs ys : List A) → total f (xs ++ ys) ≡ total f xs + total f ys
total-append f [] ys = omega arith
total-append f (x ∷ xs) ys = omega (arith, total-append f xs ys)

pub total_le : {A : Type 0} (f g : A → ℕ) (xs : List A) → AllByRecursion (λ x. f x ≤ g x) xs → total f xs ≤ total g xs
total_le f g [] h = omega arith
total_le f g (x ∷ xs) h = omega (arith, h.0, total_le f g xs h.1)

pub total_map : {A B : Type 0} (f : B → ℕ) (g : A → B) (xs : List A) → total f (map g xs) ≡ total (λ x. f (g x)) xs
total_map f g [] = refl
total_map f g (x ∷ xs) = omega (arith, total_map f g xs)

pub total_times : {A : Type 0} (c : ℕ) (f : A → ℕ) (xs : List A) → total (λ x. c * f x) xs ≡ c * total f xs
total_times c f [] = omega arith
total_times c f (x ∷ xs) = omega (arith, total_times c f xs)

-- one more turn of the same sum each time
pub total_turns : {A : Type 0} (f : A → ℕ) (c n : ℕ) (turn : ℕ → List A) → ((index : ℕ) → total f (turn index) ≡ c) → total f (each_turn n turn) ≡ n * c
total_turns f c zero turn h = omega arith
total_turns f c (suc n) turn h = omega (arith, total-append f (each_turn n turn) (turn n), total_turns f c n turn h, h n)

-- the numbers below one, added up
abbrev pub sum_below : (ℕ → ℕ) → ℕ → ℕ
sum_below f zero = 0
sum_below f (suc n) = sum_below f n + f n

pub below_plus : (f g : ℕ → ℕ) (n : ℕ) → sum_below (λ t. f t + g t) n ≡ sum_below f n + sum_below g n
below_plus f g zero = refl
below_plus f g (suc n) = omega (arith, below_plus f g n)

pub below_zero : (n : ℕ) → sum_below (λ t. 0) n ≡ 0
below_zero zero = refl
below_zero (suc n) = omega (arith, below_zero n)

pub below_le : (f : ℕ → ℕ) (n limit : ℕ) → ((t : ℕ) → t < n → f t ≤ limit) → sum_below f n ≤ n * limit
below_le f zero limit h = omega arith
below_le f (suc n) limit h = omega (arith, below_le f n limit (λ t k. h t (omega arith)), h n (omega arith))

-- an amount at one number alone
pub none_below : (s a n : ℕ) → n ≤ s → sum_below (λ t. cond (nat_eq s t) a 0) n ≡ 0
none_below s a zero h = refl
none_below s a (suc n) h = let e = ap (λ (v : Bool). cond v a 0) (ne_eqb s n (omega arith)) in omega (arith, none_below s a n (omega arith), e)

pub one_below : (s a n : ℕ) → s < n → sum_below (λ t. cond (nat_eq s t) a 0) n ≡ a
one_below s a zero h = absurd (omega arith)
one_below s a (suc n) h = ⊎_elim
    (λ lt. (let e = ap (λ (v : Bool). cond v a 0) (ne_eqb s n (omega arith)) in omega (arith, one_below s a n lt, e)))
    (λ le. (let q : s ≡ n = omega arith in let e = ap (λ (v : Bool). cond v a 0) (eq-eqb s n q) in omega (arith, none_below s a n le, e)))
    (cases_lt s n)
