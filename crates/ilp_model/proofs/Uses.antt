-- The rows of the cells and of a stage, where each instance has one stage or none.
use Rattle.std.proofs.Common.{◌≡◌, ℕ, pos, ◌+◌, ◌*◌, ◌<◌, ◌≤◌, Bool, true, false, cond, ◌&&◌, List, [], ◌++◌, Option, Some, None, refl, sym, ap, ◌∙◌, subst, arith, ◌≢◌}
use Rattle.std.specs.Prelude.{nat_eq}
use Rattle.std.specs.List.{AllByRecursion}
use Rattle.std.proofs.lemmas.Int.{ints}
use Rattle.std.proofs.Math.Nat.{mul-le-mul_left}
use Rattle.std.proofs.lemmas.Bool.{eqb-true, ne_eqb, eq-eqb}
use Rattle.elastic_ast.specs.declared.flat.Cells.{Cells}
use Rattle.elastic_ast.specs.declared.flat.Cells.TheVariants.{Fixed, Symbol}
use Rattle.elastic_ast.specs.Meaning.Values.{bit}
use Rattle.elastic_ast.specs.Units.PlainUnits.{PlainUnit}
use Rattle.target_desc.specs.declared.target.Target.{Target}
use Rattle.dep_graph.specs.declared.resource.Resource.{Resource}
use Rattle.dep_graph.specs.declared.resource.Resource.TheVariants as resource
use Rattle.dep_graph.specs.Use.{cell_count, taken_by, limit_of}
use Rattle.ilp_model.specs.Candidates.{Candidate, symbolic}
use Rattle.unroll_bound.specs.Counts.{is_symbolic}
use Rattle.ilp_model.specs.Variables.{Variable}
use Rattle.ilp_model.specs.Variables.Variable.{Size, Stands, Held}
use Rattle.ilp_model.specs.NamedRows.{NamedRow, row, plus, sum_of, Holds}
use Rattle.ilp_model.specs.Rows.{use_row}
use Rattle.ilp_model.proofs.Totals.{total, sum_to}
use Rattle.ilp_model.proofs.Valuations.{there}
use Rattle.ilp_model.proofs.Sums.{total_same, total_plus, total_filter, sum_of_plus, sum_of-append}
use Rattle.unroll_bound.proofs.Totals.{each_more, each_two, total_le}
use Rattle.ilp_model.proofs.Counter.{sum_at_one}
use Rattle.ilp_model.proofs.Groups.{Celled}
use Rattle.ilp_model.proofs.Orders.{IsHot}

-- the cells that an instance holds in its stage are at least its size
pub held_at_least : (m : ℕ) (b : ℕ → ℕ) (n : Variable → ℕ) (p : Candidate) (s a : ℕ) → Celled m b n p s → IsHot m n p true a → there n p.instance.unit.size p.instance.index ≡ 1 → n (Size s) ≤ n (Held p a)
held_at_least m b n p s a c h e =
    let once = sum_at_one (λ t. n (Held p t)) m a (h.below refl) (λ t k ne. none t k ne) in
    let all = c.all in
    let w = ap (λ v. b s * v) e in
    omega (arith, all, once, w)
  where
    none : (t : ℕ) → t < m → t ≢ a → n (Held p t) ≡ 0
    none t k ne =
        let z : n (Stands p t) ≡ 0 = h.is t k ∙ ap bit (ne_eqb a t (λ q. ne (sym q))) in
        let w = ap (λ v. b s * v) z in
        omega (arith, c.only t k, w)

-- the cells are those of the size in the stage, and none elsewhere
pub record HoldsSize (m : ℕ) (n : Variable → ℕ) (p : Candidate) (k : ℕ) (live : Bool) (a : ℕ) : Type 0 where
  pub is : (t : ℕ) → t < m → n (Held p t) ≡ cond (live && nat_eq a t) k 0

pub celled_is : (m : ℕ) (b : ℕ → ℕ) (n : Variable → ℕ) (p : Candidate) (s : ℕ) (live : Bool) (a : ℕ) → IsHot m n p live a → HoldsSize m n p (n (Size s)) live a → n (Size s) ≤ b s → there n p.instance.unit.size p.instance.index ≡ bit live → Celled m b n p s
celled_is m b n p s live a h c small e = record {
  only = λ t k. rw (c.is t k) (rw (h.is t k) (only_le (live && nat_eq a t)));
  all = whole live h c e;
}
  where
    only_le : (v : Bool) → cond v (n (Size s)) 0 ≤ b s * bit v
    only_le true = omega (arith, small)
    only_le false = omega arith

    whole : (v : Bool) → IsHot m n p v a → HoldsSize m n p (n (Size s)) v a → there n p.instance.unit.size p.instance.index ≡ bit v → n (Size s) + b s * there n p.instance.unit.size p.instance.index ≤ sum_to (λ t. n (Held p t)) m + b s
    whole true h c e =
        let once = sum_at_one (λ t. n (Held p t)) m a (h.below refl) (λ t k ne. c.is t k ∙ ap (λ v. cond v (n (Size s)) 0) (ne_eqb a t (λ q. ne (sym q)))) in
        let here = c.is a (h.below refl) ∙ ap (λ v. cond v (n (Size s)) 0) (eq-eqb a a refl) in
        let w = ap (λ v. b s * v) e in
        omega (arith, once, here, w)
    whole false h c e = let w = ap (λ v. b s * v) e in omega (arith, small, w)

module _ (target : Target) (m : ℕ) (n : Variable → ℕ) (live : Candidate → Bool) (at : Candidate → ℕ) where
  -- what the instances in stage t use
  abbrev pub used : (Candidate → ℕ) → ℕ → List Candidate → ℕ
  used f t ps = total (λ p. cond (live p && nat_eq (at p) t) (f p) 0) ps

  stands_used : (f : PlainUnit → ℕ) (ps : List Candidate) → AllByRecursion (λ p. IsHot m n p (live p) (at p)) ps → (t : ℕ) → t < m → total (λ p. f p.instance.unit * n (Stands p t)) ps ≡ used (λ p. f p.instance.unit) t ps
  stands_used f ps h t k = total_same (λ p. f p.instance.unit * n (Stands p t)) (λ p. cond (live p && nat_eq (at p) t) (f p.instance.unit) 0) ps (each_more (λ p. IsHot m n p (live p) (at p)) (λ p. f p.instance.unit * n (Stands p t) ≡ cond (live p && nat_eq (at p) t) (f p.instance.unit) 0) (λ p q. ap (λ v. f p.instance.unit * v) (q.is t k) ∙ times_bit (f p.instance.unit) (live p && nat_eq (at p) t)) ps h)
    where
      times_bit : (c : ℕ) (v : Bool) → c * bit v ≡ cond v c 0
      times_bit c true = omega arith
      times_bit c false = omega arith

  abbrev plain_row : (PlainUnit → ℕ) → ℕ → List Candidate → ℕ → NamedRow
  plain_row f t ps limit = row (plus (λ p. f p.instance.unit) (λ p. Stands p t) ps ++ []) (pos limit)

  plain_from : (f : PlainUnit → ℕ) (ps : List Candidate) (t limit : ℕ) → AllByRecursion (λ p. IsHot m n p (live p) (at p)) ps → t < m → Holds n (plain_row f t ps limit) → used (λ p. f p.instance.unit) t ps ≤ limit
  plain_from f ps t limit h k r =
      let parts = plus (λ p. f p.instance.unit) (λ p. Stands p t) ps in
      omega (arith, ints, r, sum_of-append parts [] n, sum_of_plus (λ p. f p.instance.unit) (λ p. Stands p t) ps n, stands_used f ps h t k)

  plain_to : (f : PlainUnit → ℕ) (ps : List Candidate) (t limit : ℕ) → AllByRecursion (λ p. IsHot m n p (live p) (at p)) ps → t < m → used (λ p. f p.instance.unit) t ps ≤ limit → Holds n (plain_row f t ps limit)
  plain_to f ps t limit h k r =
      let parts = plus (λ p. f p.instance.unit) (λ p. Stands p t) ps in
      omega (arith, ints, r, sum_of-append parts [] n, sum_of_plus (λ p. f p.instance.unit) (λ p. Stands p t) ps n, stands_used f ps h t k)

  -- what an instance takes of memory where symbols count no cells
  abbrev fixed_memory : Candidate → Option Cells → ℕ
  fixed_memory p c = cell_count (λ symbol. 0) c * p.instance.unit.cell_width

  -- the memory row as one sum over the instances
  abbrev pub memory_term : ℕ → Candidate → ℕ
  memory_term t p = taken_by resource.Memory (λ symbol. 0) p.instance.unit * n (Stands p t) + cond (is_symbolic p.instance.unit.cells) (p.instance.unit.cell_width * n (Held p t)) 0

  abbrev memory_row : ℕ → List Candidate → NamedRow
  memory_row t ps = use_row target ps t resource.Memory

  memory_sum : (ps : List Candidate) (t : ℕ) → sum_of (memory_row t ps).parts n ≡ pos (total (memory_term t) ps)
  memory_sum ps t =
      let a = plus (λ p. taken_by resource.Memory (λ symbol. 0) p.instance.unit) (λ p. Stands p t) ps in
      let c = plus (λ p. p.instance.unit.cell_width) (λ p. Held p t) (symbolic ps) in
      let e = total_plus (λ p. taken_by resource.Memory (λ symbol. 0) p.instance.unit * n (Stands p t)) (λ p. cond (is_symbolic p.instance.unit.cells) (p.instance.unit.cell_width * n (Held p t)) 0) ps in
      let d = total_filter (λ p. p.instance.unit.cell_width * n (Held p t)) (λ p. is_symbolic p.instance.unit.cells) ps in
      omega (arith, ints, sum_of-append a c n, sum_of_plus (λ p. taken_by resource.Memory (λ symbol. 0) p.instance.unit) (λ p. Stands p t) ps n, sum_of_plus (λ p. p.instance.unit.cell_width) (λ p. Held p t) (symbolic ps) n, e, d)

  -- the cells of the size at least are held
  abbrev pub HoldsCells : (ℕ → ℕ) → Candidate → Option Cells → Type 0
  HoldsCells z p None = Unit {0}
  HoldsCells z p (Some (Fixed k)) = Unit {0}
  HoldsCells z p (Some (Symbol s)) = live p ≡ true → z s ≤ n (Held p (at p))

  memory_at_least : (z : ℕ → ℕ) (p : Candidate) (t : ℕ) (c : Option Cells) → IsHot m n p (live p) (at p) → t < m → HoldsCells z p c → cond (live p && nat_eq (at p) t) (cell_count z c * p.instance.unit.cell_width) 0 ≤ fixed_memory p c * n (Stands p t) + cond (is_symbolic c) (p.instance.unit.cell_width * n (Held p t)) 0
  memory_at_least z p t None h k d = none (live p && nat_eq (at p) t)
    where
      none : (v : Bool) → cond v (0 * p.instance.unit.cell_width) 0 ≤ 0 * p.instance.unit.cell_width * n (Stands p t) + 0
      none true = omega arith
      none false = omega arith
  memory_at_least z p t (Some (Fixed c)) h k d = rw (h.is t k) (fixed (live p && nat_eq (at p) t))
    where
      fixed : (v : Bool) → cond v (c * p.instance.unit.cell_width) 0 ≤ c * p.instance.unit.cell_width * bit v + 0
      fixed true = omega arith
      fixed false = omega arith
  memory_at_least z p t (Some (Symbol s)) h k d = symbol (live p) (nat_eq (at p) t) refl refl
    where
      symbol : (v w : Bool) → live p ≡ v → nat_eq (at p) t ≡ w → cond (v && w) (z s * p.instance.unit.cell_width) 0 ≤ 0 * p.instance.unit.cell_width * n (Stands p t) + p.instance.unit.cell_width * n (Held p t)
      symbol true true e f =
          let q : at p ≡ t = eqb-true (at p) t f in
          let le = subst (λ u. z s ≤ n (Held p u)) q (d e) in
          omega (arith, mul-le-mul_left p.instance.unit.cell_width le)
      symbol true false e f = omega arith
      symbol false w e f = omega arith

  memory_from : (z : ℕ → ℕ) (ps : List Candidate) (t : ℕ) → AllByRecursion (λ p. IsHot m n p (live p) (at p)) ps → AllByRecursion (λ p. HoldsCells z p p.instance.unit.cells) ps → t < m → Holds n (memory_row t ps) → used (λ p. taken_by resource.Memory z p.instance.unit) t ps ≤ target.memory_bits
  memory_from z ps t h d k r =
      let le = total_le (λ p. cond (live p && nat_eq (at p) t) (taken_by resource.Memory z p.instance.unit) 0) (memory_term t) ps (each_two (λ p. IsHot m n p (live p) (at p)) (λ p. HoldsCells z p p.instance.unit.cells) (λ p. cond (live p && nat_eq (at p) t) (taken_by resource.Memory z p.instance.unit) 0 ≤ memory_term t p) (λ p a c. memory_at_least z p t p.instance.unit.cells a k c) ps h d) in
      omega (arith, ints, r, memory_sum ps t, le)

  memory_same : (z : ℕ → ℕ) (p : Candidate) (t : ℕ) (c : Option Cells) → IsHot m n p (live p) (at p) → t < m → HoldsSize m n p (cell_count z c) (live p) (at p) → cond (live p && nat_eq (at p) t) (cell_count z c * p.instance.unit.cell_width) 0 ≡ fixed_memory p c * n (Stands p t) + cond (is_symbolic c) (p.instance.unit.cell_width * n (Held p t)) 0
  memory_same z p t None h k d = none (live p && nat_eq (at p) t)
    where
      none : (v : Bool) → cond v (0 * p.instance.unit.cell_width) 0 ≡ 0 * p.instance.unit.cell_width * n (Stands p t) + 0
      none true = omega arith
      none false = omega arith
  memory_same z p t (Some (Fixed c)) h k d = rw (h.is t k) (fixed (live p && nat_eq (at p) t))
    where
      fixed : (v : Bool) → cond v (c * p.instance.unit.cell_width) 0 ≡ c * p.instance.unit.cell_width * bit v + 0
      fixed true = omega arith
      fixed false = omega arith
  memory_same z p t (Some (Symbol s)) h k d = rw (d.is t k) (symbol (live p && nat_eq (at p) t))
    where
      symbol : (v : Bool) → cond v (z s * p.instance.unit.cell_width) 0 ≡ 0 * p.instance.unit.cell_width * n (Stands p t) + p.instance.unit.cell_width * cond v (z s) 0
      symbol true = omega arith
      symbol false = omega arith

  memory_to : (z : ℕ → ℕ) (ps : List Candidate) (t : ℕ) → AllByRecursion (λ p. IsHot m n p (live p) (at p)) ps → AllByRecursion (λ p. HoldsSize m n p (cell_count z p.instance.unit.cells) (live p) (at p)) ps → t < m → used (λ p. taken_by resource.Memory z p.instance.unit) t ps ≤ target.memory_bits → Holds n (memory_row t ps)
  memory_to z ps t h d k r =
      let same = total_same (λ p. cond (live p && nat_eq (at p) t) (taken_by resource.Memory z p.instance.unit) 0) (memory_term t) ps (each_two (λ p. IsHot m n p (live p) (at p)) (λ p. HoldsSize m n p (cell_count z p.instance.unit.cells) (live p) (at p)) (λ p. cond (live p && nat_eq (at p) t) (taken_by resource.Memory z p.instance.unit) 0 ≡ memory_term t p) (λ p a c. memory_same z p t p.instance.unit.cells a k c) ps h d) in
      omega (arith, ints, r, memory_sum ps t, same)

  pub use_from : (z : ℕ → ℕ) (ps : List Candidate) (t : ℕ) (kind : Resource) → AllByRecursion (λ p. IsHot m n p (live p) (at p)) ps → AllByRecursion (λ p. HoldsCells z p p.instance.unit.cells) ps → t < m → Holds n (use_row target ps t kind) → used (λ p. taken_by kind z p.instance.unit) t ps ≤ limit_of kind target
  use_from z ps t resource.Stateful h d k r = plain_from (taken_by resource.Stateful z) ps t target.stateful h k r
  use_from z ps t resource.Stateless h d k r = plain_from (taken_by resource.Stateless z) ps t target.stateless h k r
  use_from z ps t resource.Memory h d k r = memory_from z ps t h d k r
  use_from z ps t resource.TableBits h d k r = plain_from (taken_by resource.TableBits z) ps t target.table_bits h k r
  use_from z ps t resource.TernaryBits h d k r = plain_from (taken_by resource.TernaryBits z) ps t target.ternary_bits h k r

  pub use_to : (z : ℕ → ℕ) (ps : List Candidate) (t : ℕ) (kind : Resource) → AllByRecursion (λ p. IsHot m n p (live p) (at p)) ps → AllByRecursion (λ p. HoldsSize m n p (cell_count z p.instance.unit.cells) (live p) (at p)) ps → t < m → used (λ p. taken_by kind z p.instance.unit) t ps ≤ limit_of kind target → Holds n (use_row target ps t kind)
  use_to z ps t resource.Stateful h d k r = plain_to (taken_by resource.Stateful z) ps t target.stateful h k r
  use_to z ps t resource.Stateless h d k r = plain_to (taken_by resource.Stateless z) ps t target.stateless h k r
  use_to z ps t resource.Memory h d k r = memory_to z ps t h d k r
  use_to z ps t resource.TableBits h d k r = plain_to (taken_by resource.TableBits z) ps t target.table_bits h k r
  use_to z ps t resource.TernaryBits h d k r = plain_to (taken_by resource.TernaryBits z) ps t target.ternary_bits h k r
