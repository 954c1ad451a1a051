-- From sizes and stages to rows that hold.
use Rattle.std.proofs.Common.{◌≡◌, ℕ, ℤ, pos, neg_ℤ, ◌+◌, ◌-◌, ◌*◌, ◌<◌, ◌≤◌, ◌≤ℤ◌, ◌-ℤ◌, Bool, true, false, cond, ◌&&◌, List, [], ◌∷◌, map, Option, Some, None, refl, sym, ap, ◌∙◌, subst, arith, ⊎_elim}
use Rattle.std.specs.Prelude.{nat_eq, nat_le, nat_lt}
use Rattle.std.specs.List.{AllByRecursion}
use Rattle.std.proofs.lemmas.Int.{ints}
use Rattle.std.proofs.lemmas.Bool.{lt-ltb, le-ltb, cases_lt}
use Rattle.std.proofs.lemmas.Bool.Decides.{nat_tests}
use Rattle.elastic_ast.specs.declared.flat.Cells.{Cells}
use Rattle.elastic_ast.specs.declared.flat.Cells.TheVariants.{Fixed, Symbol}
use Rattle.elastic_ast.specs.declared.flat.Terms.{Terms}
use Rattle.elastic_ast.specs.Meaning.Values.{bit}
use Rattle.elastic_ast.specs.Units.PlainUnits.{PlainUnits}
use Rattle.elastic_ast.specs.Units.Order.{order_of}
use Rattle.elastic_laws.specs.Units.LiveInstances.{is_within, is_live}
use Rattle.target_desc.specs.declared.target.Target.{Target}
use Rattle.dep_graph.specs.declared.resource.Resource.{Resource}
use Rattle.dep_graph.specs.PlacementRules.{StandsSo}
use Rattle.dep_graph.specs.Use.{cell_count, taken_by, limit_of}
use Rattle.place_check.specs.FirstFault.{resources}
use Rattle.ilp_model.specs.Candidates.{Candidate, candidates}
use Rattle.ilp_model.specs.StepKeys.{step_keys}
use Rattle.ilp_model.specs.Variables.{Variable}
use Rattle.unroll_bound.specs.Counts.{looped_symbols}
use Rattle.ilp_model.specs.Variables.Variable.{Size, Exists, Stands}
use Rattle.ilp_model.specs.NamedRows.{Holds, part, row}
use Rattle.ilp_model.specs.Rows.{size_parts, loop_rows, key_rows, stand_rows, cell_rows, use_row, use_rows, rows_of_pair}
use Rattle.ilp_model.proofs.Totals.{sum_to}
use Rattle.ilp_model.proofs.Valuations.{taken_in, AreLaid, there, valued, IsKey}
use Rattle.ilp_model.proofs.Sums.{all_upto, later_more}
use Rattle.unroll_bound.proofs.Totals.{each_mapped, each_more, each_any}
use Rattle.ilp_model.proofs.Counter.{sum_same, counter_sum}
use Rattle.ilp_model.proofs.Groups.{counts_to, keyed_to, placed_to, celled_to}
use Rattle.ilp_model.proofs.Orders.{IsHot, hot_sum, stand_to}
use Rattle.ilp_model.proofs.Uses.{HoldsSize, celled_is, use_to}
use Rattle.ilp_model.proofs.NineGroups.{sizes_worth, sizes_weigh, sum_of_sizes, worth_weigh, AllRows}

pub there_is : (n : Variable → ℕ) (z : ℕ → ℕ) (s : Option ℕ) (i : ℕ) → ((s i : ℕ) → n (Exists s i) ≡ bit (nat_lt i (z s))) → there n s i ≡ bit (is_within z s i)
there_is n z None i h = refl
there_is n z (Some s) i h = h s i

header_low : (m : ℤ) (w f h : ℕ) → m ≡ pos w → f + w ≤ h → m ≤ℤ (pos h -ℤ pos f)
header_low m w f h e l = omega (arith, ints, e, l)

pub header_high : (m : ℤ) (w f h : ℕ) → m ≡ pos w → m ≤ℤ (pos h -ℤ pos f) → f + w ≤ h
header_high m w f h e l = omega (arith, ints, e, l)

falls_bit : (i z : ℕ) → bit (nat_lt (i + 1) z) ≤ bit (nat_lt i z)
falls_bit i z = ⊎_elim (λ lt. omega (arith, ap bit (lt-ltb i z (omega arith)), ap bit (lt-ltb (i + 1) z lt))) (λ le. omega (arith, ap bit (le-ltb (i + 1) z le))) (cases_lt (i + 1) z)

key_low : (k z : ℕ) → k * bit (nat_le k z) ≤ z
key_low k z = go (nat_le k z) refl
  where
    go : (v : Bool) → nat_le k z ≡ v → k * bit v ≤ z
    go true e = let l : k ≤ z = grind (arith, nat_tests) in omega arith
    go false e = omega arith

key_high : (k z b : ℕ) → k ≤ b → z ≤ b → z + 1 ≤ (b - k + 1) * bit (nat_le k z) + k
key_high k z b l m = go (nat_le k z) refl
  where
    go : (v : Bool) → nat_le k z ≡ v → z + 1 ≤ (b - k + 1) * bit v + k
    go true e = omega arith
    go false e = let l : z < k = grind (arith, nat_tests) in omega arith

-- the rows of the terms hold, and the symbols that are to be at least 1 are
pub record Assumed (terms : Terms) (z : ℕ → ℕ) : Type 0 where
  pub rows : AllByRecursion (λ r. sizes_worth r.by z 0 ≤ℤ r.most) terms.rows
  pub ones : AllByRecursion (λ s. 1 ≤ z s) terms.ones

-- from a pair's sizes and stages to the rows
module _ (units : PlainUnits) (target : Target) (b z : ℕ → ℕ) (at : Candidate → ℕ) where
  hot : AllByRecursion (λ p. is_live z p.instance ≡ true → at p < target.stages) (candidates units b) → AllByRecursion (λ p. IsHot target.stages (valued z at) p (is_live z p.instance) (at p)) (candidates units b)
  hot h = each_more (λ p. is_live z p.instance ≡ true → at p < target.stages) (λ p. IsHot target.stages (valued z at) p (is_live z p.instance) (at p)) (λ p k. record { is = λ t l. refl; below = k }) (candidates units b) h

  holds : (ps : List Candidate) → AllByRecursion (λ p. HoldsSize target.stages (valued z at) p (cell_count z p.instance.unit.cells) (is_live z p.instance) (at p)) ps
  holds ps = each_any (λ p. HoldsSize target.stages (valued z at) p (cell_count z p.instance.unit.cells) (is_live z p.instance) (at p)) (λ p. record { is = λ t l. refl }) ps

  cells_to : (p : Candidate) (c : Option Cells) → p.instance.unit.cells ≡ c → ((s : ℕ) → z s ≤ b s) → IsHot target.stages (valued z at) p (is_live z p.instance) (at p) → AllByRecursion (Holds (valued z at)) (cell_rows target.stages b p c)
  cells_to p None e small h = tt
  cells_to p (Some (Fixed k)) e small h = tt
  cells_to p (Some (Symbol s)) e small h =
      celled_to target.stages b (valued z at) p s
      (celled_is target.stages b (valued z at) p s (is_live z p.instance) (at p) h
      (record { is = λ t l. ap (λ c. cond (is_live z p.instance && nat_eq (at p) t) (cell_count z c) 0) e })
      (small s) (there_is (valued z at) z p.instance.unit.size p.instance.index (λ s i. refl)))

  sum_there : (p : Candidate) → IsHot target.stages (valued z at) p (is_live z p.instance) (at p) → sum_to (λ t. valued z at (Stands p t)) target.stages ≡ there (valued z at) p.instance.unit.size p.instance.index
  sum_there p h =
      let e = hot_sum (λ t. 1) target.stages (valued z at) p (is_live z p.instance) (at p) h in
      let f = sum_same (λ t. 1 * valued z at (Stands p t)) (λ t. valued z at (Stands p t)) target.stages (λ t k. omega arith) in
      sym f ∙ e ∙ cond_bit (is_live z p.instance) ∙ sym (there_is (valued z at) z p.instance.unit.size p.instance.index (λ s i. refl))
    where
      cond_bit : (v : Bool) → cond v 1 0 ≡ bit v
      cond_bit true = refl
      cond_bit false = refl

  pub point_rows : ((s : ℕ) → z s ≤ b s) → AllByRecursion (IsKey b) (step_keys units.terms b) → Assumed units.terms z → units.fixed_bits + sizes_weigh units.symbol_bits z 0 ≤ target.header_bits → AreLaid target z at (candidates units b) → AllRows units target b (Holds (valued z at))
  point_rows small key assumes header laid =
      let hs = hot laid.stages in
      record {
        assumes = each_mapped (λ r. row (size_parts 0 r.by) r.most) (Holds (valued z at)) units.terms.rows (each_more (λ r. sizes_worth r.by z 0 ≤ℤ r.most) (λ r. Holds (valued z at) (row (size_parts 0 r.by) r.most)) (λ r k. subst (λ v. v ≤ℤ r.most) (sym (sum_of_sizes r.by 0 (valued z at) z (λ s. refl))) k) units.terms.rows assumes.rows);
        ones = each_mapped (λ s. row (part (neg_ℤ (pos 1)) (Size s) ∷ []) (neg_ℤ (pos 1))) (Holds (valued z at)) units.terms.ones (each_more (λ s. 1 ≤ z s) (λ s. Holds (valued z at) (row (part (neg_ℤ (pos 1)) (Size s) ∷ []) (neg_ℤ (pos 1)))) (λ s k. omega (arith, ints, k)) units.terms.ones assumes.ones);
        header = header_low _ (sizes_weigh units.symbol_bits z 0) units.fixed_bits target.header_bits (sum_of_sizes (map pos units.symbol_bits) 0 (valued z at) z (λ s. refl) ∙ worth_weigh units.symbol_bits z 0) header;
        counts = each_any (λ s. AllByRecursion (Holds (valued z at)) (loop_rows b s)) (λ s. counts_to b (valued z at) s (record { sum = counter_sum (b s) (z s) (small s); falls = λ i k. falls_bit i (z s) })) (looped_symbols units);
        keys = each_more (IsKey b) (λ j. AllByRecursion (Holds (valued z at)) (key_rows b j)) (λ j k. keyed_to b (valued z at) j (record { low = key_low j.key (z j.symbol); high = key_high j.key (z j.symbol) (b j.symbol) k.1 (small j.symbol) })) (step_keys units.terms b) key;
        places = each_more (λ p. IsHot target.stages (valued z at) p (is_live z p.instance) (at p)) (λ p. AllByRecursion (Holds (valued z at)) (stand_rows target.stages p)) (λ p h. placed_to target.stages (valued z at) p (sum_there p h)) (candidates units b) hs;
        cells = each_more (λ p. IsHot target.stages (valued z at) p (is_live z p.instance) (at p)) (λ p. AllByRecursion (Holds (valued z at)) (cell_rows target.stages b p p.instance.unit.cells)) (λ p h. cells_to p p.instance.unit.cells refl small h) (candidates units b) hs;
        stages = all_upto (λ t. AllByRecursion (Holds (valued z at)) (use_rows target (candidates units b) t)) target.stages (λ t k.
            each_mapped (use_row target (candidates units b) t) (Holds (valued z at)) resources (each_kind t k (laid.uses t k)));
        orders = later_more (λ p. IsHot target.stages (valued z at) p (is_live z p.instance) (at p)) (λ p q. is_live z p.instance ≡ true → is_live z q.instance ≡ true → StandsSo (order_of p.instance q.instance) (at p) (at q)) (λ p q. AllByRecursion (Holds (valued z at)) (rows_of_pair target.stages (p, q))) (λ p q hp hq k. stand_to target.stages (valued z at) p q (order_of p.instance q.instance) (is_live z p.instance) (is_live z q.instance) (at p) (at q) hp hq k) (candidates units b) hs laid.order;
      }
    where
      each_kind : (t : ℕ) → t < target.stages → ((kind : Resource) → taken_in z at (taken_by kind z) t (candidates units b) ≤ limit_of kind target) → AllByRecursion (λ kind. Holds (valued z at) (use_row target (candidates units b) t kind)) resources
      each_kind t k u = each_any (λ kind. Holds (valued z at) (use_row target (candidates units b) t kind)) (λ kind. use_to target target.stages (valued z at) (λ p. is_live z p.instance) at z (candidates units b) t kind (hot laid.stages) (holds (candidates units b)) k (u kind)) resources
