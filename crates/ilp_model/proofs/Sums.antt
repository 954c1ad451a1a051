-- Sums over lists, what holds of each element of a list, and what the parts of a row add up to.
use Rattle.std.proofs.Common.{◌≡◌, ℕ, ℤ, zero, suc, pos, neg_ℤ, ◌+◌, ◌*◌, ◌<◌, ◌+ℤ◌, ◌*ℤ◌, Bool, true, false, cond, List, [], ◌∷◌, ◌++◌, map, filter, refl, subst, arith, ◌⊎◌, ⊎_elim}
use Rattle.std.specs.Prelude.{flat_map}
use Rattle.std.specs.List.{AllByRecursion}
use Rattle.std.proofs.lemmas.Int.{ints}
use Rattle.dep_graph.specs.PlacementRules.{EachLater}
use Rattle.place_check.specs.FirstFault.{each_pair}
use Rattle.ilp_model.specs.Variables.{Variable}
use Rattle.unroll_bound.specs.Counts.{numbers_below}
use Rattle.ilp_model.specs.NamedRows.{NamedPart, sum_of, plus, minus}
use Rattle.unroll_bound.proofs.Totals.{each_two, each_append, each_mapped, total-append}
use Rattle.ilp_model.proofs.Totals.{total}

-- each element
pub all_left : {A : Type 0} (P : A → Type 0) (xs ys : List A) → AllByRecursion P (xs ++ ys) → AllByRecursion P xs
all_left P [] ys h = tt
all_left P (x ∷ xs) ys h = (h.0, all_left P xs ys h.1)

pub all_right : {A : Type 0} (P : A → Type 0) (xs ys : List A) → AllByRecursion P (xs ++ ys) → AllByRecursion P ys
all_right P [] ys h = h
all_right P (x ∷ xs) ys h = all_right P xs ys h.1

pub all_unmap : {A B : Type 0} (f : A → B) (P : B → Type 0) (xs : List A) → AllByRecursion P (map f xs) → AllByRecursion (λ x. P (f x)) xs
all_unmap f P [] h = tt
all_unmap f P (x ∷ xs) h = (h.0, all_unmap f P xs h.1)

pub all_joined : {A B : Type 0} (f : A → List B) (P : B → Type 0) (xs : List A) → AllByRecursion (λ x. AllByRecursion P (f x)) xs → AllByRecursion P (flat_map f xs)
all_joined f P [] h = tt
all_joined f P (x ∷ xs) h = each_append P (f x) (flat_map f xs) h.0 (all_joined f P xs h.1)

pub all_unjoined : {A B : Type 0} (f : A → List B) (P : B → Type 0) (xs : List A) → AllByRecursion P (flat_map f xs) → AllByRecursion (λ x. AllByRecursion P (f x)) xs
all_unjoined f P [] h = tt
all_unjoined f P (x ∷ xs) h = (all_left P (f x) (flat_map f xs) h, all_unjoined f P xs (all_right P (f x) (flat_map f xs) h))

pub all_pairs : {A : Type 0} (P : A × A → Type 0) (xs : List A) → EachLater (λ x y. P (x, y)) xs → AllByRecursion P (each_pair xs)
all_pairs P [] h = tt
all_pairs {A} P (x ∷ xs) h = each_append P (map (λ (y : A). (x, y)) xs) (each_pair xs) (each_mapped (λ (y : A). (x, y)) P xs h.0) (all_pairs P xs h.1)

pub all_unpairs : {A : Type 0} (P : A × A → Type 0) (xs : List A) → AllByRecursion P (each_pair xs) → EachLater (λ x y. P (x, y)) xs
all_unpairs P [] h = tt
all_unpairs {A} P (x ∷ xs) h = (all_unmap (λ (y : A). (x, y)) P xs (all_left P (map (λ (y : A). (x, y)) xs) (each_pair xs) h), all_unpairs P xs (all_right P (map (λ (y : A). (x, y)) xs) (each_pair xs) h))

pub later_more : {A : Type 0} (P : A → Type 0) (R S : A → A → Type 0) → ((x y : A) → P x → P y → R x y → S x y) → (xs : List A) → AllByRecursion P xs → EachLater R xs → EachLater S xs
later_more P R S f [] p h = tt
later_more P R S f (x ∷ xs) p h = (each_two P (R x) (S x) (λ y k r. f x y p.0 k r) xs p.1 h.0, later_more P R S f xs p.1 h.1)

pub all_upto : (P : ℕ → Type 0) (n : ℕ) → ((t : ℕ) → t < n → P t) → AllByRecursion P (numbers_below n)
all_upto P zero h = tt
all_upto P (suc n) h = each_append P (numbers_below n) (n ∷ []) (all_upto P n (λ t k. h t (omega arith))) (h n (omega arith), tt)

pub upto_all : (P : ℕ → Type 0) (n : ℕ) → AllByRecursion P (numbers_below n) → (t : ℕ) → t < n → P t
upto_all P zero h t k = absurd (omega arith)
upto_all P (suc n) h t k =
    let last = all_right P (numbers_below n) (n ∷ []) h in
    let front = upto_all P n (all_left P (numbers_below n) (n ∷ []) h) in
    ⊎_elim (λ lt. front t lt) (λ e. subst P e last.0) (split t n k)
  where
    split : (t n : ℕ) → t < suc n → (t < n) ⊎ (n ≡ t)
    split t n k = grind arith

-- sums
pub total_same : {A : Type 0} (f g : A → ℕ) (xs : List A) → AllByRecursion (λ x. f x ≡ g x) xs → total f xs ≡ total g xs
total_same f g [] h = refl
total_same f g (x ∷ xs) h = omega (arith, h.0, total_same f g xs h.1)

pub total_plus : {A : Type 0} (f g : A → ℕ) (xs : List A) → total (λ x. f x + g x) xs ≡ total f xs + total g xs
total_plus f g [] = omega arith
total_plus f g (x ∷ xs) = omega (arith, total_plus f g xs)

pub total_more : (f : ℕ → ℕ) (n : ℕ) → total f (numbers_below (suc n)) ≡ total f (numbers_below n) + f n
total_more f n = omega (arith, total-append f (numbers_below n) (n ∷ []))

pub total_filter : {A : Type 0} (f : A → ℕ) (b : A → Bool) (xs : List A) → total f (filter b xs) ≡ total (λ x. cond (b x) (f x) 0) xs
total_filter f b [] = refl
total_filter {A} f b (x ∷ xs) = go (b x) (total_filter f b xs)
  where
    go : (v : Bool) → total f (filter b xs) ≡ total (λ x. cond (b x) (f x) 0) xs → total f (cond v (x ∷ filter b xs) (filter b xs)) ≡ cond v (f x) 0 + total (λ x. cond (b x) (f x) 0) xs
    go true r = omega (arith, r)
    go false r = omega (arith, r)

-- what terms add plus to
pub sum_of-append : (ts us : List NamedPart) (n : Variable → ℕ) → sum_of (ts ++ us) n ≡ sum_of ts n +ℤ sum_of us n
sum_of-append [] us n = omega (arith, ints)
sum_of-append (t ∷ ts) us n = omega (arith, ints, sum_of-append ts us n)

pub sum_of_plus : {A : Type 0} (f : A → ℕ) (g : A → Variable) (xs : List A) (n : Variable → ℕ) → sum_of (plus f g xs) n ≡ pos (total (λ x. f x * n (g x)) xs)
sum_of_plus f g [] n = refl
sum_of_plus f g (x ∷ xs) n = omega (arith, ints, sum_of_plus f g xs n)

pub down_step : (c v a : ℕ) (w : ℤ) → w ≡ neg_ℤ (pos a) → neg_ℤ (pos c) *ℤ pos v +ℤ w ≡ neg_ℤ (pos (c * v + a))
down_step zero v a w h = omega (arith, ints, h)
down_step (suc c) v a w h = omega (arith, ints, h)

pub sum_of_minus : {A : Type 0} (f : A → ℕ) (g : A → Variable) (xs : List A) (n : Variable → ℕ) → sum_of (minus f g xs) n ≡ neg_ℤ (pos (total (λ x. f x * n (g x)) xs))
sum_of_minus f g [] n = refl
sum_of_minus f g (x ∷ xs) n = down_step (f x) (n (g x)) (total (λ x. f x * n (g x)) xs) (sum_of (minus f g xs) n) (sum_of_minus f g xs n)
