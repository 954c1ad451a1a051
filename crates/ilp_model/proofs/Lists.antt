-- Points as lists.
use Rattle.std.proofs.Common.{◌≡◌, ℕ, ℤ, zero, suc, pos, negsuc, ◌+◌, ◌*◌, ◌<◌, ◌≤◌, ◌≤ℤ◌, ◌+ℤ◌, ◌*ℤ◌, unsigned_abs, Bool, true, false, cond, not, List, [], ◌∷◌, ◌++◌, map, length, filter, get_or, refl, sym, ap, ap₂, ◌∙◌, subst, arith, All}
use Rattle.std.specs.Prelude.{nat_eq}
use Rattle.std.specs.List.{AllByRecursion, range_with_len}
use Rattle.std.proofs.lemmas.Int.{ints}
use Rattle.std.specs.Ordering.{int_eq}
use Rattle.std.proofs.lemmas.Bool.{eqb-true, ne_eqb, eq-eqb}
use Rattle.std.proofs.lemmas.Bool.Decides.{Decides-int_eq}
use Rattle.std.proofs.lemmas.List.{map-append}
use Rattle.std.proofs.lemmas.List.FromFn.{fill_by_all, map-range_with_len_more}
use Rattle.elastic_ast.specs.Meaning.Values.{bit}
use Rattle.elastic_ast.specs.Units.Instances.{nth_size}
use Rattle.dep_graph.specs.HeaderBits.{weighed}
use Rattle.int_program.specs.Sums.{at, sum_at}
use Rattle.size_terms.specs.Rows.{dot, table_worth, tables_worth}
use Rattle.elastic_ast.specs.declared.flat.Steps.{Steps}
use Rattle.ilp_model.specs.Variables.{Variable}
use Rattle.unroll_bound.specs.Counts.{numbers_below}
use Rattle.ilp_model.specs.NamedRows.{NamedPart, sum_of}
use Rattle.ilp_model.specs.IpOf.{has_coefficient, part_of, parts_of}
use Rattle.ilp_model.specs.PairOf.{last_one}
use Rattle.ilp_model.proofs.Counter.{one_of, sum_at_one}
use Rattle.ilp_model.proofs.NineGroups.{sizes_worth, sizes_weigh}
use Rattle.ilp_model.proofs.ObjectiveLaws.{tables_at}

-- std's All from the recursion, and back
pub to_all : {A : Type 0} (P : A → Type 0) (xs : List A) → AllByRecursion P xs → All P xs
to_all P [] h k d l = absurd (omega arith)
to_all P (x ∷ xs) h zero d l = h.0
to_all P (x ∷ xs) h (suc k) d l = to_all P xs h.1 k d (omega arith)

pub from_all : {A : Type 0} (P : A → Type 0) (xs : List A) → All P xs → AllByRecursion P xs
from_all P [] h = tt
from_all P (x ∷ xs) h = (h 0 x (omega arith), from_all P xs (λ k d l. h (suc k) d (omega arith)))

-- the parts' sum is the terms'
pub parts_sum : (num : Variable → ℕ) (n : Variable → ℕ) (x : List ℤ) (ts : List NamedPart) → AllByRecursion (λ t. at x (num t.variable) ≡ pos (n t.variable)) ts → sum_at (parts_of num ts) x ≡ sum_of ts n
parts_sum num n x [] h = refl
parts_sum num n x (t ∷ ts) h = go (int_eq t.by (pos 0)) refl (parts_sum num n x ts h.1)
  where
    zero_times : (c w v : ℤ) (m : ℕ) → c ≡ pos 0 → w ≡ v → w ≡ c *ℤ pos m +ℤ v
    zero_times c w v m e d = rw e (omega (arith, ints, d))

    go : (v : Bool) → int_eq t.by (pos 0) ≡ v → sum_at (parts_of num ts) x ≡ sum_of ts n → sum_at (map (part_of num) (cond (not v) (t ∷ filter has_coefficient ts) (filter has_coefficient ts))) x ≡ t.by *ℤ pos (n t.variable) +ℤ sum_of ts n
    go true e r = zero_times t.by (sum_at (parts_of num ts) x) (sum_of ts n) (n t.variable) ((Decides-int_eq t.by (pos 0)).0 e) r
    go false e r = ap₂ (λ v w. t.by *ℤ v +ℤ w) h.0 r

-- a list by its numbers
map_range : {A : Type 0} (f : ℕ → A) (n : ℕ) → map f (numbers_below n) ≡ map f (range_with_len 0 n)
map_range f zero = refl
map_range f (suc n) =
    let e : n + 1 ≡ suc n = omega arith in
    map-append f (numbers_below n) (n ∷ []) ∙ ap (λ l. l ++ f n ∷ []) (map_range f n) ∙ sym (map-range_with_len_more f 0 n n (omega arith)) ∙ ap (λ k. map f (range_with_len 0 k)) e

pub sizes_back : (f : ℕ → ℕ) (zs : List ℕ) (n : ℕ) → length zs ≡ n → ((s : ℕ) → s < n → nth_size zs s ≡ f s) → map f (numbers_below n) ≡ zs
sizes_back f zs n e h = map_range f n ∙ sym (fill_by_all f zs n 0 e h)

-- past the end
pub past : {A : Type 0} (xs : List A) (k : ℕ) (d : A) → length xs ≤ k → get_or xs k d ≡ d
past [] k d h = refl
past (x ∷ xs) zero d h = absurd (omega arith)
past (x ∷ xs) (suc k) d h = past xs k d (omega arith)

-- lists of the values of two functions
pub ends_le : {A : Type 0} (f g : A → ℕ) → ((x : A) → f x ≤ g x) → (xs : List A) (k : ℕ) → at (map (λ x. pos (f x)) xs) k ≤ℤ at (map (λ x. pos (g x)) xs) k
ends_le f g h [] k = omega (arith, ints)
ends_le f g h (x ∷ xs) zero = omega (arith, ints, h x)
ends_le f g h (x ∷ xs) (suc k) = ends_le f g h xs k

pub ends_low : {A : Type 0} (f : A → ℕ) (ys : List ℤ) (xs : List A) (k : ℕ) → at (map (λ _. pos 0) ys) k ≤ℤ at (map (λ x. pos (f x)) xs) k
ends_low f ys xs k = subst (λ z. z ≤ℤ at (map (λ x. pos (f x)) xs) k) (sym (zeros ys k)) (low xs k)
  where
    zeros : (ys : List ℤ) (k : ℕ) → at (map (λ _. pos 0) ys) k ≡ pos 0
    zeros [] k = refl
    zeros (y ∷ ys) zero = refl
    zeros (y ∷ ys) (suc k) = zeros ys k

    low : (xs : List _) (k : ℕ) → pos 0 ≤ℤ at (map (λ x. pos (f x)) xs) k
    low [] k = omega (arith, ints)
    low (x ∷ xs) zero = omega (arith, ints)
    low (x ∷ xs) (suc k) = low xs k

pub zero_low : (ys : List ℤ) (k : ℕ) → at (map (λ _. pos 0) ys) k ≡ pos 0
zero_low [] k = refl
zero_low (y ∷ ys) zero = refl
zero_low (y ∷ ys) (suc k) = zero_low ys k

pub natural : (z : ℤ) → pos 0 ≤ℤ z → z ≡ pos (unsigned_abs z)
natural (pos n) h = refl
natural (negsuc n) h = absurd (omega (arith, ints, h))

-- what a filter and a map make of instances on which they agree
pub map_filter_same : {A B : Type 0} (f g : A → B) (b c : A → Bool) (xs : List A) → AllByRecursion (λ x. (b x ≡ c x) × (c x ≡ true → f x ≡ g x)) xs → map f (filter b xs) ≡ map g (filter c xs)
map_filter_same f g b c [] h = refl
map_filter_same {A} {B} f g b c (x ∷ xs) h = ap (λ v. map f (cond v (x ∷ filter b xs) (filter b xs))) h.0.0 ∙ go (c x) refl (map_filter_same f g b c xs h.1)
  where
    go : (v : Bool) → c x ≡ v → map f (filter b xs) ≡ map g (filter c xs) → map f (cond v (x ∷ filter b xs) (filter b xs)) ≡ map g (cond v (x ∷ filter c xs) (filter c xs))
    go true e r = ap₂ (λ y l. y ∷ l) (h.0.1 e) r
    go false e r = r

pub eqb_bit : (v : Bool) → nat_eq (bit v) 1 ≡ v
eqb_bit true = refl
eqb_bit false = refl

-- the first stage is the only one
pub last_one_is : (f : ℕ → ℕ) (n a : ℕ) → a < n → ((t : ℕ) → t < n → f t ≡ bit (nat_eq a t)) → last_one f n ≡ a
last_one_is f n a k h =
    let here = h a k ∙ ap bit (eq-eqb a a refl) in
    let sum = sum_at_one f n a k (λ t l ne. h t l ∙ ap bit (ne_eqb a t (λ q. ne (sym q)))) in
    go (nat_eq (last_one f n) a) refl (one_of f n (sum ∙ here) a k) here
  where
    go : (v : Bool) → nat_eq (last_one f n) a ≡ v → f a ≡ bit v → f a ≡ 1 → last_one f n ≡ a
    go true e p q = eqb-true (last_one f n) a e
    go false e p q = absurd (omega (arith, p, q))

-- sums over a list of sizes, and over the function that it is
abbrev AreFrom : List ℕ → (ℕ → ℕ) → ℕ → Type 0
AreFrom zs z s = (k : ℕ) → z (s + k) ≡ nth_size zs k

from_next : (y : ℕ) (zs : List ℕ) (z : ℕ → ℕ) (s : ℕ) → AreFrom (y ∷ zs) z s → AreFrom zs z (s + 1)
from_next y zs z s h k = ap z (let e : s + 1 + k ≡ s + suc k = omega arith in e) ∙ h (suc k)

from_here : (y : ℕ) (zs : List ℕ) (z : ℕ → ℕ) (s : ℕ) → AreFrom (y ∷ zs) z s → z s ≡ y
from_here y zs z s h = ap z (let e : s ≡ s + 0 = omega arith in e) ∙ h 0

from_none : (z : ℕ → ℕ) (s : ℕ) → AreFrom [] z s → AreFrom [] z (s + 1)
from_none z s h k = ap z (let e : s + 1 + k ≡ s + suc k = omega arith in e) ∙ h (suc k)

dot_step : (a w v : ℤ) (n m : ℕ) → n ≡ m → w ≡ v → pos m *ℤ a +ℤ w ≡ a *ℤ pos n +ℤ v
dot_step a w v n m e d = rw e (omega (arith, ints, d))

none_step : (a v : ℤ) (n : ℕ) → n ≡ 0 → pos 0 ≡ v → pos 0 ≡ a *ℤ pos n +ℤ v
none_step a v n e d = rw e (omega (arith, ints, d))

dot_none : (by : List ℤ) (z : ℕ → ℕ) (s : ℕ) → AreFrom [] z s → pos 0 ≡ sizes_worth by z s
dot_none [] z s h = refl
dot_none (a ∷ by) z s h = none_step a (sizes_worth by z (s + 1)) (z s) (ap z (let e : s ≡ s + 0 = omega arith in e) ∙ h 0) (dot_none by z (s + 1) (from_none z s h))

dot_from : (by : List ℤ) (zs : List ℕ) (z : ℕ → ℕ) (s : ℕ) → AreFrom zs z s → dot by zs ≡ sizes_worth by z s
dot_from [] zs z s h = refl
dot_from (a ∷ by) [] z s h = dot_none (a ∷ by) z s h
dot_from (a ∷ by) (y ∷ zs) z s h = dot_step a (dot by zs) (sizes_worth by z (s + 1)) (z s) y (from_here y zs z s h) (dot_from by zs z (s + 1) (from_next y zs z s h))

pub dot_is : (by : List ℤ) (zs : List ℕ) → dot by zs ≡ sizes_worth by (nth_size zs) 0
dot_is by zs = dot_from by zs (nth_size zs) 0 (λ k. ap (nth_size zs) (let e : 0 + k ≡ k = omega arith in e))

weigh_none : (ws : List ℕ) (z : ℕ → ℕ) (s : ℕ) → AreFrom [] z s → 0 ≡ sizes_weigh ws z s
weigh_none [] z s h = refl
weigh_none (w ∷ ws) z s h =
    let e : z s ≡ 0 = ap z (let e : s ≡ s + 0 = omega arith in e) ∙ h 0 in
    let p = ap (λ v. w * v) e in
    omega (arith, p, weigh_none ws z (s + 1) (from_none z s h))

weigh_from : (ws zs : List ℕ) (z : ℕ → ℕ) (s : ℕ) → AreFrom zs z s → weighed ws zs ≡ sizes_weigh ws z s
weigh_from [] zs z s h = refl
weigh_from (w ∷ ws) [] z s h = weigh_none (w ∷ ws) z s h
weigh_from (w ∷ ws) (y ∷ zs) z s h =
    let p = ap (λ v. w * v) (from_here y zs z s h) in
    omega (arith, p, weigh_from ws zs z (s + 1) (from_next y zs z s h))

pub weighed_is : (ws zs : List ℕ) → weighed ws zs ≡ sizes_weigh ws (nth_size zs) 0
weighed_is ws zs = weigh_from ws zs (nth_size zs) 0 (λ k. ap (nth_size zs) (let e : 0 + k ≡ k = omega arith in e))

pub tables_are : (zs : List ℕ) (ts : List Steps) → tables_worth zs ts ≡ tables_at ts (nth_size zs)
tables_are zs [] = refl
tables_are zs (t ∷ ts) = ap (λ v. table_worth zs t +ℤ v) (tables_are zs ts)
