-- From rows that hold to sizes and stages.
use Rattle.std.proofs.Common.{◌≡◌, ℕ, pos, neg_ℤ, ◌+◌, ◌<◌, ◌≤◌, ◌≤ℤ◌, Bool, true, false, cond, List, [], ◌∷◌, map, filter, Option, Some, None, refl, ap, ◌∙◌, subst, arith}
use Rattle.std.specs.Prelude.{nat_lt}
use Rattle.std.specs.List.{AllByRecursion}
use Rattle.std.proofs.lemmas.Int.{ints}
use Rattle.elastic_ast.specs.declared.flat.Cells.{Cells}
use Rattle.elastic_ast.specs.declared.flat.Cells.TheVariants.{Fixed, Symbol}
use Rattle.elastic_ast.specs.Meaning.Values.{bit}
use Rattle.elastic_ast.specs.Units.PlainUnits.{PlainUnits}
use Rattle.elastic_ast.specs.Units.Order.{order_of}
use Rattle.elastic_laws.specs.Units.LiveInstances.{is_within, is_live}
use Rattle.target_desc.specs.declared.target.Target.{Target}
use Rattle.dep_graph.specs.declared.resource.Resource.{Resource}
use Rattle.dep_graph.specs.declared.resource.Resource.TheVariants as resource
use Rattle.dep_graph.specs.PlacementRules.{StandsSo}
use Rattle.place_check.specs.FirstFault.{resources}
use Rattle.ilp_model.specs.Candidates.{Candidate, candidates}
use Rattle.ilp_model.specs.StepKeys.{step_keys}
use Rattle.ilp_model.specs.Variables.{Variable, symbol_count}
use Rattle.unroll_bound.specs.Counts.{numbers_below, is_looped}
use Rattle.ilp_model.specs.Variables.Variable.{Size, Exists, Reached, Stands}
use Rattle.ilp_model.specs.NamedRows.{Holds, part, row}
use Rattle.ilp_model.specs.Rows.{size_parts, loop_rows, stand_rows, cell_rows, use_row, use_rows, rows_of_pair}
use Rattle.ilp_model.proofs.Totals.{sum_to}
use Rattle.ilp_model.proofs.Valuations.{there, stage_at, AreLaid, Belongs, IsLoop}
use Rattle.ilp_model.proofs.Sums.{upto_all, all_unmap, later_more}
use Rattle.unroll_bound.proofs.Totals.{each_more, each_two}
use Rattle.ilp_model.proofs.Counter.{term_le_sum, last_below, one_of, counter_is}
use Rattle.ilp_model.proofs.Groups.{counts_from, placed_from, celled_from}
use Rattle.ilp_model.proofs.Orders.{IsHot, stand_from}
use Rattle.ilp_model.proofs.Uses.{held_at_least, HoldsCells, use_from}
use Rattle.ilp_model.proofs.NineGroups.{sizes_worth, sizes_weigh, sum_of_sizes, worth_weigh, AllRows}
use Rattle.ilp_model.proofs.ToRows.{Assumed, header_high}

pub all_kept : {A : Type 0} (P : A → Type 0) (b : A → Bool) (xs : List A) → AllByRecursion P (filter b xs) → AllByRecursion (λ x. b x ≡ true → P x) xs
all_kept P b [] h = tt
all_kept {A} P b (x ∷ xs) h = go (b x) refl h (λ k. all_kept P b xs k)
  where
    go : (v : Bool) → b x ≡ v → AllByRecursion P (cond v (x ∷ filter b xs) (filter b xs)) → (AllByRecursion P (filter b xs) → AllByRecursion (λ x. b x ≡ true → P x) xs) → AllByRecursion (λ x. b x ≡ true → P x) (x ∷ xs)
    go true e k r = (λ q. k.0, r k.1)
    go false e k r = (λ q. cc, r k)

each_kind : (P : Resource → Type 0) → AllByRecursion P resources → (kind : Resource) → P kind
each_kind P h resource.Stateful = h.0
each_kind P h resource.Stateless = h.1.0
each_kind P h resource.Memory = h.1.1.0
each_kind P h resource.TableBits = h.1.1.1.0
each_kind P h resource.TernaryBits = h.1.1.1.1.0

-- the tops of the variables
pub record AreTops (units : PlainUnits) (b : ℕ → ℕ) (n : Variable → ℕ) : Type 0 where
  pub sizes : (s : ℕ) → s < (symbol_count units) → n (Size s) ≤ b s
  pub counters : (s i : ℕ) → IsLoop units s → i < b s → n (Exists s i) ≤ 1
  pub keys : AllByRecursion (λ j. n (Reached j) ≤ 1) (step_keys units.terms b)

abbrev pub sizes_at : (Variable → ℕ) → ℕ → ℕ
sizes_at n s = n (Size s)

module _ (units : PlainUnits) (target : Target) (b : ℕ → ℕ) (n : Variable → ℕ) (rows : AllRows units target b (Holds n)) (tops : AreTops units b n) where
  counter : (s i : ℕ) → IsLoop units s → i < b s → n (Exists s i) ≡ bit (nat_lt i (n (Size s)))
  counter s i l k =
      let c = counts_from b n s (upto_all (λ s. is_looped units.list s ≡ true → AllByRecursion (Holds n) (loop_rows b s)) (symbol_count units) (all_kept (λ s. AllByRecursion (Holds n) (loop_rows b s)) (λ s. is_looped units.list s) (numbers_below (symbol_count units)) rows.counts) s l.0 l.1) in
      counter_is (λ i. n (Exists s i)) (b s) (n (Size s)) (λ i k. tops.counters s i l k) (λ i k. c.falls i k) c.sum i k

  pub there_live : (s : Option ℕ) (i : ℕ) → Belongs units b s i → there n s i ≡ bit (is_within (sizes_at n) s i)
  there_live None i h = refl
  there_live (Some s) i h = counter s i h.1 h.0

  hot_one : (p : Candidate) → AllByRecursion (Holds n) (stand_rows target.stages p) → Belongs units b p.instance.unit.size p.instance.index → IsHot target.stages n p (is_live (sizes_at n) p.instance) (stage_at target.stages n p)
  hot_one p h k = go (is_live (sizes_at n) p.instance) (placed_from target.stages n p h ∙ there_live p.instance.unit.size p.instance.index k)
    where
      go : (v : Bool) → sum_to (λ t. n (Stands p t)) target.stages ≡ bit v → IsHot target.stages n p v (stage_at target.stages n p)
      go true e = record { is = λ t l. one_of (λ t. n (Stands p t)) target.stages e t l; below = λ q. last_below (λ t. n (Stands p t)) target.stages e }
      go false e = record { is = λ t l. omega (arith, term_le_sum (λ t. n (Stands p t)) target.stages t l, e); below = λ q. cc }

  holds_one : (p : Candidate) (c : Option Cells) (live : Bool) → is_live (sizes_at n) p.instance ≡ live → AllByRecursion (Holds n) (cell_rows target.stages b p c) → Belongs units b p.instance.unit.size p.instance.index → IsHot target.stages n p live (stage_at target.stages n p) → HoldsCells target target.stages n (λ p. is_live (sizes_at n) p.instance) (stage_at target.stages n) (sizes_at n) p c
  holds_one p None live e h k q = tt
  holds_one p (Some (Fixed c)) live e h k q = tt
  holds_one p (Some (Symbol s)) true e h k q = λ l. held_at_least target.stages b n p s (stage_at target.stages n p) (celled_from target.stages b n p s h) q (there_live p.instance.unit.size p.instance.index k ∙ ap bit e)
  holds_one p (Some (Symbol s)) false e h k q = λ l. cc

  module _ (belongs : AllByRecursion (λ p. Belongs units b p.instance.unit.size p.instance.index) (candidates units b)) where
    pub hots : AllByRecursion (λ p. IsHot target.stages n p (is_live (sizes_at n) p.instance) (stage_at target.stages n p)) (candidates units b)
    hots = each_two (λ p. AllByRecursion (Holds n) (stand_rows target.stages p)) (λ p. Belongs units b p.instance.unit.size p.instance.index) (λ p. IsHot target.stages n p (is_live (sizes_at n) p.instance) (stage_at target.stages n p)) hot_one (candidates units b) rows.places belongs

    all_hold : AllByRecursion (λ p. HoldsCells target target.stages n (λ p. is_live (sizes_at n) p.instance) (stage_at target.stages n) (sizes_at n) p p.instance.unit.cells) (candidates units b)
    all_hold =
        each_two (λ p. IsHot target.stages n p (is_live (sizes_at n) p.instance) (stage_at target.stages n p)) (λ p. AllByRecursion (Holds n) (cell_rows target.stages b p p.instance.unit.cells) × Belongs units b p.instance.unit.size p.instance.index) (λ p. HoldsCells target target.stages n (λ p. is_live (sizes_at n) p.instance) (stage_at target.stages n) (sizes_at n) p p.instance.unit.cells)
        (λ p q k. holds_one p p.instance.unit.cells (is_live (sizes_at n) p.instance) refl k.0 k.1 q) (candidates units b) hots
        (each_two (λ p. AllByRecursion (Holds n) (cell_rows target.stages b p p.instance.unit.cells)) (λ p. Belongs units b p.instance.unit.size p.instance.index) (λ p. AllByRecursion (Holds n) (cell_rows target.stages b p p.instance.unit.cells) × Belongs units b p.instance.unit.size p.instance.index) (λ p x y. (x, y)) (candidates units b) rows.cells belongs)

    pub candidates_laid : AreLaid target (sizes_at n) (stage_at target.stages n) (candidates units b)
    candidates_laid = record {
      stages = each_more (λ p. IsHot target.stages n p (is_live (sizes_at n) p.instance) (stage_at target.stages n p)) (λ p. is_live (sizes_at n) p.instance ≡ true → stage_at target.stages n p < target.stages) (λ p h. h.below) (candidates units b) hots;
      order = later_more (λ p. IsHot target.stages n p (is_live (sizes_at n) p.instance) (stage_at target.stages n p)) (λ p q. AllByRecursion (Holds n) (rows_of_pair target.stages (p, q))) (λ p q. is_live (sizes_at n) p.instance ≡ true → is_live (sizes_at n) q.instance ≡ true → StandsSo (order_of p.instance q.instance) (stage_at target.stages n p) (stage_at target.stages n q)) (λ p q hp hq r lp lq. stand_from target.stages n p q (order_of p.instance q.instance) (is_live (sizes_at n) p.instance) (is_live (sizes_at n) q.instance) (stage_at target.stages n p) (stage_at target.stages n q) hp hq r lp lq) (candidates units b) hots rows.orders;
      uses = λ t k kind. use_from target target.stages n (λ p. is_live (sizes_at n) p.instance) (stage_at target.stages n) (sizes_at n) (candidates units b) t kind hots all_hold k (this_kind t k kind);
    }
      where
        this_kind : (t : ℕ) → t < target.stages → (kind : Resource) → Holds n (use_row target (candidates units b) t kind)
        this_kind t k kind = each_kind (λ kind. Holds n (use_row target (candidates units b) t kind)) (all_unmap (use_row target (candidates units b) t) (Holds n) resources (upto_all (λ t. AllByRecursion (Holds n) (use_rows target (candidates units b) t)) target.stages rows.stages t k)) kind

  pub assumed : Assumed units.terms (sizes_at n)
  assumed = record {
    rows = each_more (λ r. Holds n (row (size_parts 0 r.by) r.most)) (λ r. sizes_worth r.by (sizes_at n) 0 ≤ℤ r.most) (λ r k. subst (λ v. v ≤ℤ r.most) (sum_of_sizes r.by 0 n (sizes_at n) (λ s. refl)) k) units.terms.rows (all_unmap (λ r. row (size_parts 0 r.by) r.most) (Holds n) units.terms.rows rows.assumes);
    ones = each_more (λ s. Holds n (row (part (neg_ℤ (pos 1)) (Size s) ∷ []) (neg_ℤ (pos 1)))) (λ s. 1 ≤ sizes_at n s) (λ s k. omega (arith, ints, k)) units.terms.ones (all_unmap (λ s. row (part (neg_ℤ (pos 1)) (Size s) ∷ []) (neg_ℤ (pos 1))) (Holds n) units.terms.ones rows.ones);
  }

  pub header_fits : units.fixed_bits + sizes_weigh units.symbol_bits (sizes_at n) 0 ≤ target.header_bits
  header_fits = header_high _ (sizes_weigh units.symbol_bits (sizes_at n) 0) units.fixed_bits target.header_bits (sum_of_sizes (map pos units.symbol_bits) 0 n (sizes_at n) (λ s. refl) ∙ worth_weigh units.symbol_bits (sizes_at n) 0) rows.header
