-- The rows of an order, where each instance has one stage or none.
use Rattle.std.proofs.Common.{◌≡◌, ℕ, ◌+◌, ◌-◌, ◌*◌, ◌<◌, ◌≤◌, Bool, true, false, cond, ◌&&◌, refl, ap, ◌∙◌, arith, ⊎_elim}
use Rattle.std.specs.Prelude.{nat_eq, nat_le}
use Rattle.std.specs.List.{AllByRecursion}
use Rattle.std.proofs.lemmas.Bool.{cases_lt}
use Rattle.std.proofs.lemmas.Bool.Decides.{nat_tests}
use Rattle.elastic_ast.specs.Meaning.Values.{bit}
use Rattle.elastic_ast.specs.Units.Order.{Relation}
use Rattle.elastic_ast.specs.Units.Order.Relation.{Free, NotAfter, Before}
use Rattle.dep_graph.specs.PlacementRules.{StandsSo}
use Rattle.ilp_model.specs.Candidates.{Candidate}
use Rattle.ilp_model.specs.Variables.{Variable}
use Rattle.unroll_bound.specs.Counts.{numbers_below}
use Rattle.ilp_model.specs.Variables.Variable.{Stands}
use Rattle.ilp_model.specs.NamedRows.{Holds}
use Rattle.ilp_model.specs.Rows.{order_row, order_rows}
use Rattle.ilp_model.proofs.Totals.{sum_to}
use Rattle.ilp_model.proofs.Sums.{all_upto, upto_all, all_unmap}
use Rattle.unroll_bound.proofs.Totals.{each_mapped}
use Rattle.ilp_model.proofs.Counter.{sum_same, sum_none, pick}
use Rattle.ilp_model.proofs.Groups.{order_from, order_to}

-- p stands in stage a where `live`, and in none else
pub record IsHot (m : ℕ) (n : Variable → ℕ) (p : Candidate) (live : Bool) (a : ℕ) : Type 0 where
  pub is : (t : ℕ) → t < m → n (Stands p t) ≡ bit (live && nat_eq a t)
  pub below : live ≡ true → a < m

-- a sum of factors over the stages
pub hot_sum : (f : ℕ → ℕ) (m : ℕ) (n : Variable → ℕ) (p : Candidate) (live : Bool) (a : ℕ) → IsHot m n p live a → sum_to (λ t. f t * n (Stands p t)) m ≡ cond live (f a) 0
hot_sum f m n p true a h =
    sum_same (λ t. f t * n (Stands p t)) (λ t. f t * bit (nat_eq a t)) m (λ t k. ap (λ v. f t * v) (h.is t k))
    ∙ pick f m a (h.below refl)
hot_sum f m n p false a h = sum_none (λ t. f t * n (Stands p t)) m (λ t k. let e = ap (λ v. f t * v) (h.is t k) in omega (arith, e))

row_is : (m : ℕ) (n : Variable → ℕ) (p q : Candidate) (lp lq : Bool) (a c low t : ℕ) → IsHot m n p lp a → IsHot m n q lq c → Holds n (order_row m p q low t) → cond lp (bit (nat_le low a)) 0 + cond lq (bit (nat_le c t)) 0 ≤ 1
row_is m n p q lp lq a c low t hp hq h =
    let e = hot_sum (λ r. bit (nat_le low r)) m n p lp a hp in
    let d = hot_sum (λ r. bit (nat_le r t)) m n q lq c hq in
    omega (arith, order_from m n p q low t h, e, d)

row_of : (m : ℕ) (n : Variable → ℕ) (p q : Candidate) (lp lq : Bool) (a c low t : ℕ) → IsHot m n p lp a → IsHot m n q lq c → cond lp (bit (nat_le low a)) 0 + cond lq (bit (nat_le c t)) 0 ≤ 1 → Holds n (order_row m p q low t)
row_of m n p q lp lq a c low t hp hq h =
    let e = hot_sum (λ r. bit (nat_le low r)) m n p lp a hp in
    let d = hot_sum (λ r. bit (nat_le r t)) m n q lq c hq in
    order_to m n p q low t (omega (arith, h, e, d))

both_bits : (low a c t : ℕ) → bit (nat_le low a) + bit (nat_le c t) ≤ 1 → low ≤ a → c ≤ t → ⊥
both_bits low a c t h k l = go (nat_le low a) (nat_le c t) refl refl h
  where
    go : (v w : Bool) → nat_le low a ≡ v → nat_le c t ≡ w → bit v + bit w ≤ 1 → ⊥
    go true true e f h = omega arith
    go true false e f h = let g : t < c = grind (arith, nat_tests) in omega arith
    go false w e f h = let g : a < low = grind (arith, nat_tests) in omega arith

not_both : (low a c t : ℕ) → (low ≤ a → c ≤ t → ⊥) → bit (nat_le low a) + bit (nat_le c t) ≤ 1
not_both low a c t h = go (nat_le low a) (nat_le c t) refl refl
  where
    go : (v w : Bool) → nat_le low a ≡ v → nat_le c t ≡ w → bit v + bit w ≤ 1
    go true true e f =
        let k : low ≤ a = grind (arith, nat_tests) in
        let l : c ≤ t = grind (arith, nat_tests) in
        absurd (h k l)
    go true false e f = omega arith
    go false true e f = omega arith
    go false false e f = omega arith

pub stand_from : (m : ℕ) (n : Variable → ℕ) (p q : Candidate) (r : Relation) (lp lq : Bool) (a c : ℕ) → IsHot m n p lp a → IsHot m n q lq c → AllByRecursion (Holds n) (order_rows m p q r) → lp ≡ true → lq ≡ true → StandsSo r a c
stand_from m n p q Free lp lq a c hp hq h kp kq = tt
stand_from m n p q NotAfter true true a c hp hq h kp kq = ⊎_elim bad (λ le. le) (cases_lt c a)
  where
    bad : c < a → a ≤ c
    bad lt =
        let f = λ (t : ℕ). order_row m p q (t + 1) t in
        let below = hp.below refl in
        let row = upto_all (λ t. Holds n (f t)) (m - 1) (all_unmap f (Holds n) (numbers_below (m - 1)) h) c (omega arith) in
        absurd (both_bits (c + 1) a c c (row_is m n p q true true a c (c + 1) c hp hq row) (omega arith) (omega arith))
stand_from m n p q Before true true a c hp hq h kp kq = ⊎_elim (λ lt. lt) bad (cases_lt a c)
  where
    bad : c ≤ a → a < c
    bad le =
        let f = λ (t : ℕ). order_row m p q t t in
        let row = upto_all (λ t. Holds n (f t)) m (all_unmap f (Holds n) (numbers_below m) h) a (hp.below refl) in
        absurd (both_bits a a c a (row_is m n p q true true a c a a hp hq row) (omega arith) le)
stand_from m n p q NotAfter false lq a c hp hq h kp kq = cc
stand_from m n p q Before false lq a c hp hq h kp kq = cc
stand_from m n p q NotAfter true false a c hp hq h kp kq = cc
stand_from m n p q Before true false a c hp hq h kp kq = cc

-- the two tests of a row, whether the instances are there or not
both_live : (lp lq : Bool) (low a c t : ℕ) → (lp ≡ true → lq ≡ true → low ≤ a → c ≤ t → ⊥) → cond lp (bit (nat_le low a)) 0 + cond lq (bit (nat_le c t)) 0 ≤ 1
both_live true true low a c t h = not_both low a c t (h refl refl)
both_live true false low a c t h = bit_le (nat_le low a)
  where
    bit_le : (v : Bool) → bit v + 0 ≤ 1
    bit_le true = omega arith
    bit_le false = omega arith
both_live false true low a c t h = bit_le (nat_le c t)
  where
    bit_le : (v : Bool) → 0 + bit v ≤ 1
    bit_le true = omega arith
    bit_le false = omega arith
both_live false false low a c t h = omega arith

pub stand_to : (m : ℕ) (n : Variable → ℕ) (p q : Candidate) (r : Relation) (lp lq : Bool) (a c : ℕ) → IsHot m n p lp a → IsHot m n q lq c → (lp ≡ true → lq ≡ true → StandsSo r a c) → AllByRecursion (Holds n) (order_rows m p q r)
stand_to m n p q Free lp lq a c hp hq h = tt
stand_to m n p q NotAfter lp lq a c hp hq h =
    let f = λ (t : ℕ). order_row m p q (t + 1) t in
    each_mapped f (Holds n) (numbers_below (m - 1)) (all_upto (λ t. Holds n (f t)) (m - 1) (λ t k. row_of m n p q lp lq a c (t + 1) t hp hq (both_live lp lq (t + 1) a c t (λ kp kq x y. let s : a ≤ c = h kp kq in omega arith))))
stand_to m n p q Before lp lq a c hp hq h =
    let f = λ (t : ℕ). order_row m p q t t in
    each_mapped f (Holds n) (numbers_below m) (all_upto (λ t. Holds n (f t)) m (λ t k. row_of m n p q lp lq a c t t hp hq (both_live lp lq t a c t (λ kp kq x y. let s : a < c = h kp kq in omega arith))))
