-- What each group of rows says, in natural numbers.
use Rattle.std.proofs.Common.{◌≡◌, ℕ, zero, suc, pos, neg_ℤ, ◌+◌, ◌-◌, ◌*◌, ◌<◌, ◌≤◌, ◌+ℤ◌, ◌-ℤ◌, ◌*ℤ◌, ◌≤ℤ◌, List, [], ◌∷◌, map, Option, Some, None, refl, ap, ◌∙◌, arith}
use Rattle.std.specs.Prelude.{nat_le}
use Rattle.std.specs.List.{AllByRecursion}
use Rattle.std.proofs.lemmas.Int.{ints}
use Rattle.elastic_ast.specs.declared.flat.Cells.TheVariants.{Symbol}
use Rattle.elastic_ast.specs.Meaning.Values.{bit}
use Rattle.ilp_model.specs.Candidates.{Candidate}
use Rattle.ilp_model.specs.StepKeys.{StepKey}
use Rattle.ilp_model.specs.Variables.{Variable}
use Rattle.unroll_bound.specs.Counts.{numbers_below}
use Rattle.ilp_model.specs.Variables.Variable.{Size, Exists, Reached, Stands, Held}
use Rattle.ilp_model.specs.NamedRows.{sum_of, Holds, plus, minus, once}
use Rattle.ilp_model.specs.Rows.{exists_parts, exists_constant, falling_row, loop_rows, key_rows, stand_rows, only_row, whole_row, cell_rows, order_row}
use Rattle.ilp_model.proofs.Valuations.{there}
use Rattle.ilp_model.proofs.Totals.{total, sum_to}
use Rattle.ilp_model.proofs.Sums.{all_upto, upto_all, all_unmap, all_left, all_right, sum_of-append, sum_of_plus, sum_of_minus}
use Rattle.unroll_bound.proofs.Totals.{each_mapped, each_append}

one_total : {A : Type 0} (f : A → ℕ) (xs : List A) → total (λ x. once x * f x) xs ≡ total f xs
one_total f [] = refl
one_total f (x ∷ xs) = omega (arith, one_total f xs)

pub sum_of_once : {A : Type 0} (g : A → Variable) (xs : List A) (n : Variable → ℕ) → sum_of (plus once g xs) n ≡ pos (total (λ x. n (g x)) xs)
sum_of_once g xs n = sum_of_plus once g xs n ∙ ap pos (one_total (λ x. n (g x)) xs)

pub sum_of_less : {A : Type 0} (g : A → Variable) (xs : List A) (n : Variable → ℕ) → sum_of (minus once g xs) n ≡ neg_ℤ (pos (total (λ x. n (g x)) xs))
sum_of_less g xs n = sum_of_minus once g xs n ∙ ap (λ m. neg_ℤ (pos m)) (one_total (λ x. n (g x)) xs)

-- the counter of a size
pub record Counts (b : ℕ → ℕ) (n : Variable → ℕ) (s : ℕ) : Type 0 where
  pub sum : sum_to (λ i. n (Exists s i)) (b s) ≡ n (Size s)
  pub falls : (i : ℕ) → i + 1 < b s → n (Exists s (i + 1)) ≤ n (Exists s i)

pub counts_from : (b : ℕ → ℕ) (n : Variable → ℕ) (s : ℕ) → AllByRecursion (Holds n) (loop_rows b s) → Counts b n s
counts_from b n s h = record {
  sum = omega (arith, ints, h.0, h.1.0, sum_of_once (Exists s) (numbers_below (b s)) n, sum_of_less (Exists s) (numbers_below (b s)) n);
  falls = λ i k. (let r = upto_all (λ i. Holds n (falling_row s i)) (b s - 1) (all_unmap (falling_row s) (Holds n) (numbers_below (b s - 1)) h.1.1) i (omega arith) in omega (arith, ints, r));
}

pub counts_to : (b : ℕ → ℕ) (n : Variable → ℕ) (s : ℕ) → Counts b n s → AllByRecursion (Holds n) (loop_rows b s)
counts_to b n s c = (
  omega (arith, ints, c.sum, sum_of_less (Exists s) (numbers_below (b s)) n),
  (
    omega (arith, ints, c.sum, sum_of_once (Exists s) (numbers_below (b s)) n),
    each_mapped (falling_row s) (Holds n) (numbers_below (b s - 1))
        (all_upto (λ i. Holds n (falling_row s i)) (b s - 1) (λ i k. omega (arith, ints, c.falls i (omega arith)))),
  ),
)

-- a key of a step table
pub record Keyed (b : ℕ → ℕ) (n : Variable → ℕ) (j : StepKey) : Type 0 where
  pub low : j.key * n (Reached j) ≤ n (Size j.symbol)
  pub high : n (Size j.symbol) + 1 ≤ (b j.symbol - j.key + 1) * n (Reached j) + j.key

high_from : (m y z k d : ℕ) → (pos 1 *ℤ pos z +ℤ (neg_ℤ (pos m) *ℤ pos y +ℤ pos 0)) ≤ℤ (pos k -ℤ pos d) → z + d ≤ m * y + k
high_from zero y z k d h = omega (arith, ints, h)
high_from (suc m) y z k d h = omega (arith, ints, h)

high_to : (m y z k d : ℕ) → z + d ≤ m * y + k → (pos 1 *ℤ pos z +ℤ (neg_ℤ (pos m) *ℤ pos y +ℤ pos 0)) ≤ℤ (pos k -ℤ pos d)
high_to zero y z k d h = omega (arith, ints, h)
high_to (suc m) y z k d h = omega (arith, ints, h)

pub keyed_from : (b : ℕ → ℕ) (n : Variable → ℕ) (j : StepKey) → AllByRecursion (Holds n) (key_rows b j) → Keyed b n j
keyed_from b n j h = record { low = omega (arith, ints, h.0); high = high_from (b j.symbol - j.key + 1) (n (Reached j)) (n (Size j.symbol)) j.key 1 h.1.0 }

pub keyed_to : (b : ℕ → ℕ) (n : Variable → ℕ) (j : StepKey) → Keyed b n j → AllByRecursion (Holds n) (key_rows b j)
keyed_to b n j k = (omega (arith, ints, k.low), (high_to (b j.symbol - j.key + 1) (n (Reached j)) (n (Size j.symbol)) j.key 1 k.high, tt))

pub exists_up : (a : ℕ) (s : Option ℕ) (i : ℕ) (n : Variable → ℕ) → sum_of (exists_parts (pos a) s i) n +ℤ pos (a * exists_constant s) ≡ pos (a * there n s i)
exists_up a None i n = omega (arith, ints)
exists_up a (Some s) i n = omega (arith, ints)

pub exists_down : (s : Option ℕ) (i : ℕ) (n : Variable → ℕ) → sum_of (exists_parts (neg_ℤ (pos 1)) s i) n ≡ pos (exists_constant s) -ℤ pos (there n s i)
exists_down None i n = refl
exists_down (Some s) i n = omega (arith, ints)

pub placed_from : (m : ℕ) (n : Variable → ℕ) (p : Candidate) → AllByRecursion (Holds n) (stand_rows m p) → sum_to (λ t. n (Stands p t)) m ≡ there n p.instance.unit.size p.instance.index
placed_from m n p h =
    let a = exists_parts (neg_ℤ (pos 1)) p.instance.unit.size p.instance.index in
    let c = exists_parts (pos 1) p.instance.unit.size p.instance.index in
    omega (arith, ints, h.0, h.1.0, sum_of-append a (plus once (Stands p) (numbers_below m)) n, sum_of-append c (minus once (Stands p) (numbers_below m)) n, sum_of_once (Stands p) (numbers_below m) n, sum_of_less (Stands p) (numbers_below m) n, exists_up 1 p.instance.unit.size p.instance.index n, exists_down p.instance.unit.size p.instance.index n)

pub placed_to : (m : ℕ) (n : Variable → ℕ) (p : Candidate) → sum_to (λ t. n (Stands p t)) m ≡ there n p.instance.unit.size p.instance.index → AllByRecursion (Holds n) (stand_rows m p)
placed_to m n p e =
    let a = exists_parts (neg_ℤ (pos 1)) p.instance.unit.size p.instance.index in
    let c = exists_parts (pos 1) p.instance.unit.size p.instance.index in (
      omega (arith, ints, e, sum_of-append a (plus once (Stands p) (numbers_below m)) n, sum_of_once (Stands p) (numbers_below m) n, exists_down p.instance.unit.size p.instance.index n),
      (omega (arith, ints, e, sum_of-append c (minus once (Stands p) (numbers_below m)) n, sum_of_less (Stands p) (numbers_below m) n, exists_up 1 p.instance.unit.size p.instance.index n), tt),
    )

-- the cells of an instance
pub record Celled (m : ℕ) (b : ℕ → ℕ) (n : Variable → ℕ) (p : Candidate) (s : ℕ) : Type 0 where
  pub only : (t : ℕ) → t < m → n (Held p t) ≤ b s * n (Stands p t)
  pub all : n (Size s) + b s * there n p.instance.unit.size p.instance.index ≤ sum_to (λ t. n (Held p t)) m + b s

pub celled_from : (m : ℕ) (b : ℕ → ℕ) (n : Variable → ℕ) (p : Candidate) (s : ℕ) → AllByRecursion (Holds n) (cell_rows m b p (Some (Symbol s))) → Celled m b n p s
celled_from m b n p s h =
    let c = exists_parts (pos (b s)) p.instance.unit.size p.instance.index in
    let f = only_row (b s) p in
    let front = all_unmap f (Holds n) (numbers_below m) (all_left (Holds n) (map f (numbers_below m)) (whole_row m (b s) p s ∷ []) h) in
    let last = all_right (Holds n) (map f (numbers_below m)) (whole_row m (b s) p s ∷ []) h in
    record {
      only = λ t k. cell_le (b s) (n (Stands p t)) (n (Held p t)) (upto_all (λ t. Holds n (f t)) m front t k);
      all = omega (arith, ints, last.0, sum_of-append c (minus once (Held p) (numbers_below m)) n, sum_of_less (Held p) (numbers_below m) n, exists_up (b s) p.instance.unit.size p.instance.index n);
    }
  where
    cell_le : (k x c : ℕ) → (neg_ℤ (pos k) *ℤ pos x +ℤ (pos 1 *ℤ pos c +ℤ pos 0)) ≤ℤ pos 0 → c ≤ k * x
    cell_le zero x c h = omega (arith, ints, h)
    cell_le (suc k) x c h = omega (arith, ints, h)

pub celled_to : (m : ℕ) (b : ℕ → ℕ) (n : Variable → ℕ) (p : Candidate) (s : ℕ) → Celled m b n p s → AllByRecursion (Holds n) (cell_rows m b p (Some (Symbol s)))
celled_to m b n p s k =
    let c = exists_parts (pos (b s)) p.instance.unit.size p.instance.index in
    let f = only_row (b s) p in
    each_append (Holds n) (map f (numbers_below m)) (whole_row m (b s) p s ∷ [])
    (each_mapped f (Holds n) (numbers_below m) (all_upto (λ t. Holds n (f t)) m (λ t q. cell_ge (b s) (n (Stands p t)) (n (Held p t)) (k.only t q))))
    (omega (arith, ints, k.all, sum_of-append c (minus once (Held p) (numbers_below m)) n, sum_of_less (Held p) (numbers_below m) n, exists_up (b s) p.instance.unit.size p.instance.index n), tt)
  where
    cell_ge : (k x c : ℕ) → c ≤ k * x → (neg_ℤ (pos k) *ℤ pos x +ℤ (pos 1 *ℤ pos c +ℤ pos 0)) ≤ℤ pos 0
    cell_ge zero x c h = omega (arith, ints, h)
    cell_ge (suc k) x c h = omega (arith, ints, h)

-- the order_of of two
pub order_from : (m : ℕ) (n : Variable → ℕ) (p q : Candidate) (low t : ℕ) → Holds n (order_row m p q low t) → sum_to (λ r. bit (nat_le low r) * n (Stands p r)) m + sum_to (λ r. bit (nat_le r t) * n (Stands q r)) m ≤ 1
order_from m n p q low t h =
    let f = λ (r : ℕ). bit (nat_le low r) in
    let g = λ (r : ℕ). bit (nat_le r t) in
    omega (arith, ints, h, sum_of-append (plus f (Stands p) (numbers_below m)) (plus g (Stands q) (numbers_below m)) n, sum_of_plus f (Stands p) (numbers_below m) n, sum_of_plus g (Stands q) (numbers_below m) n)

pub order_to : (m : ℕ) (n : Variable → ℕ) (p q : Candidate) (low t : ℕ) → sum_to (λ r. bit (nat_le low r) * n (Stands p r)) m + sum_to (λ r. bit (nat_le r t) * n (Stands q r)) m ≤ 1 → Holds n (order_row m p q low t)
order_to m n p q low t h =
    let f = λ (r : ℕ). bit (nat_le low r) in
    let g = λ (r : ℕ). bit (nat_le r t) in
    omega (arith, ints, h, sum_of-append (plus f (Stands p) (numbers_below m)) (plus g (Stands q) (numbers_below m)) n, sum_of_plus f (Stands p) (numbers_below m) n, sum_of_plus g (Stands q) (numbers_below m) n)
