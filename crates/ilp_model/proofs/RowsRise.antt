-- The rows of each group name their variables by rising number.
use Rattle.std.proofs.Common.{◌≡◌, ℕ, ℤ, zero, suc, pos, neg_ℤ, ◌+◌, ◌-◌, ◌*◌, ◌<◌, ◌≤◌, true, List, [], ◌∷◌, ◌++◌, map, length, Option, Some, None, refl, ap, subst, arith}
use Rattle.std.specs.Prelude.{flat_map, sum_by}
use Rattle.std.specs.List.{AllByRecursion}
use Rattle.std.proofs.lemmas.List.{length-map}
use Rattle.std.proofs.Math.Nat.{mul-le-mul_left}
use Rattle.elastic_ast.specs.declared.flat.Cells.{Cells}
use Rattle.elastic_ast.specs.declared.flat.Cells.TheVariants.{Fixed, Symbol}
use Rattle.elastic_ast.specs.Meaning.Values.{bit}
use Rattle.elastic_ast.specs.Units.PlainUnits.{PlainUnits}
use Rattle.elastic_ast.specs.Units.Instances.{Instance, instances}
use Rattle.elastic_ast.specs.Units.Order.{Relation, order_of}
use Rattle.elastic_ast.specs.Units.Order.Relation.{Free, NotAfter, Before}
use Rattle.target_desc.specs.declared.target.Target.{Target}
use Rattle.dep_graph.specs.declared.resource.Resource.{Resource}
use Rattle.dep_graph.specs.declared.resource.Resource.TheVariants as resource
use Rattle.dep_graph.specs.Use.{taken_by}
use Rattle.place_check.specs.FirstFault.{resources}
use Rattle.unit_flow.specs.SoundUnits.{IsCellCount}
use Rattle.ilp_model.specs.Candidates.{Candidate, candidates, candidates_from, symbolic}
use Rattle.unroll_bound.specs.Counts.{is_symbolic, numbers_below, is_looped, looped_below, looped_symbols}
use Rattle.ilp_model.specs.StepKeys.{StepKey, step_keys}
use Rattle.ilp_model.specs.Variables.{Variable, symbol_count, past_loops, past_keys, past_stages, variable_number}
use Rattle.ilp_model.specs.Variables.Variable.{Size, Exists, Reached, Stands, Held}
use Rattle.ilp_model.specs.NamedRows.{NamedPart, NamedRow, part, row, plus, minus, once}
use Rattle.ilp_model.specs.Rows.{size_parts, exists_parts, falling_row, loop_rows, key_rows, stand_rows, only_row, whole_row, cell_rows, use_row, use_rows, order_row, order_rows, rows_of_pair, rows}
use Rattle.ilp_model.specs.Objective.{rise_of, objective}
use Rattle.ilp_model.proofs.Totals.{total, sum_is_total}
use Rattle.ilp_model.proofs.Valuations.{Belongs, IsLoop}
use Rattle.ilp_model.proofs.Sums.{all_upto, later_more}
use Rattle.unroll_bound.proofs.Totals.{each_more, each_two, each_any, each_append, each_mapped}
use Rattle.ilp_model.proofs.Placing.{all_filter}
use Rattle.ilp_model.proofs.NineGroups.{rows_together}
use Rattle.ilp_model.proofs.Belonging.{instances_units, all_candidates}
use Rattle.ilp_model.proofs.Places.{existing, all_existing_length, exists_at, HasPlace, HasRank, candidates_placed, candidates_ranked, KeyHasPlace, keys_placed}
use Rattle.ilp_model.proofs.Known.{IsSound, candidates_belong, keys_symbols}
use Rattle.ilp_model.proofs.Rising.{Between, between_low, between_append, wide, between_numbers, at_short, Ordered, candidates_ordered, between_candidates, between_symbolic, between_sizes, between_order, between_keys}

module _ (units : PlainUnits) (target : Target) (b : ℕ → ℕ) where
  abbrev num : Variable → ℕ
  num = variable_number units target b

  -- where the groups of variables begin
  abbrev from_loops : ℕ
  from_loops = symbol_count units

  abbrev from_keys : ℕ
  from_keys = past_loops units b

  abbrev from_stands : ℕ
  from_stands = past_keys units b

  abbrev from_held : ℕ
  from_held = past_stages units target b

  abbrev pub past_all : ℕ
  past_all = from_held + (length (symbolic (candidates units b)) * target.stages + target.stages)

  abbrev pub Rises : List NamedPart → Type 0
  Rises ts = Between num 0 past_all ts

  abbrev pub RowRises : NamedRow → Type 0
  RowRises r = Rises r.parts

  sizes_rise : (by : List ℤ) → length by ≤ symbol_count units → Between num 0 from_loops (size_parts 0 by)
  sizes_rise by h = wide num (size_parts 0 by) 0 (0 + length by) from_loops (omega (arith, h)) (between_sizes num by 0 (λ s. refl))

  size_rise : (a : ℤ) (s : ℕ) → s < symbol_count units → Between num 0 from_loops (part a (Size s) ∷ [])
  size_rise a s h = (omega arith, omega (arith, h))

  counter_small : (s i : ℕ) → IsLoop units s → i < b s → sum_by b (looped_below units.list s) + i < sum_by b (looped_symbols units)
  counter_small s i l k =
      let at = at_short (flat_map (existing units b) (looped_symbols units)) (total b (looped_below units.list s) + i) (Exists s i) (exists_at units b (symbol_count units) s i l.0 l.1 k) in
      omega (arith, at, all_existing_length units b (looped_symbols units), sum_is_total b (looped_below units.list s), sum_is_total b (looped_symbols units))

  exists_rise : (a : ℤ) (s : Option ℕ) (i : ℕ) → Belongs units b s i → Between num from_loops from_keys (exists_parts a s i)
  exists_rise a None i h = omega arith
  exists_rise a (Some s) i h = (omega arith, omega (arith, counter_small s i h.1 h.0))

  counters_rise : (f : ℕ → ℤ) (s n : ℕ) → b s ≡ n → IsLoop units s → Between num from_loops from_keys (map (λ t. part (f t) (Exists s t)) (numbers_below n))
  counters_rise f s zero e l = omega arith
  counters_rise f s (suc n) e l =
      let last = counter_small s n l (omega (arith, e)) in
      between_low num (from_loops + sum_by b (looped_below units.list s)) from_loops from_keys (map (λ t. part (f t) (Exists s t)) (numbers_below (suc n))) (omega arith)
      (wide num (map (λ t. part (f t) (Exists s t)) (numbers_below (suc n))) (from_loops + sum_by b (looped_below units.list s)) (from_loops + sum_by b (looped_below units.list s) + suc n) from_keys (omega (arith, last))
      (between_numbers num (from_loops + sum_by b (looped_below units.list s)) f (λ t. Exists s t) (suc n) (λ t. omega arith)))

  row_end : (p n m : ℕ) → p < n → p * m + m ≤ n * m
  row_end p n m h = let le : p + 1 ≤ n = omega arith in omega (arith, mul-le-mul_left m le)

  stands_rise : (f : ℕ → ℤ) (p : Candidate) → p.place < length (candidates units b) → Between num from_stands from_held (map (λ t. part (f t) (Stands p t)) (numbers_below target.stages))
  stands_rise f p h =
      between_low num (from_stands + p.place * target.stages) from_stands from_held (map (λ t. part (f t) (Stands p t)) (numbers_below target.stages)) (omega arith)
      (wide num (map (λ t. part (f t) (Stands p t)) (numbers_below target.stages)) (from_stands + p.place * target.stages) (from_stands + p.place * target.stages + target.stages) from_held (omega (arith, row_end p.place (length (candidates units b)) target.stages h))
      (between_numbers num (from_stands + p.place * target.stages) f (λ t. Stands p t) target.stages (λ t. omega arith)))

  held_rise : (f : ℕ → ℤ) (p : Candidate) → p.rank < length (symbolic (candidates units b)) → Between num from_held past_all (map (λ t. part (f t) (Held p t)) (numbers_below target.stages))
  held_rise f p h =
      between_low num (from_held + p.rank * target.stages) from_held past_all (map (λ t. part (f t) (Held p t)) (numbers_below target.stages)) (omega arith)
      (wide num (map (λ t. part (f t) (Held p t)) (numbers_below target.stages)) (from_held + p.rank * target.stages) (from_held + p.rank * target.stages + target.stages) past_all (omega (arith, row_end p.rank (length (symbolic (candidates units b))) target.stages h))
      (between_numbers num (from_held + p.rank * target.stages) f (λ t. Held p t) target.stages (λ t. omega arith)))

  -- a size, then others
  size_first : (a : ℤ) (s : ℕ) → s < symbol_count units → (ts : List NamedPart) (high : ℕ) → high ≤ past_all → Between num from_loops high ts → Rises (part a (Size s) ∷ ts)
  size_first a s k ts high l h = (omega arith, between_low num from_loops (s + 1) past_all ts (omega (arith, k)) (wide num ts from_loops high past_all l h))

  two_rise : (ts us : List NamedPart) (mid high : ℕ) → high ≤ past_all → Between num from_loops mid ts → Between num mid high us → Rises (ts ++ us)
  two_rise ts us mid high l h k = between_low num from_loops 0 past_all (ts ++ us) (omega arith) (wide num (ts ++ us) from_loops high past_all l (between_append num from_loops mid high ts us h k))

  record IsOrderly (p : Candidate) : Type 0 where
    pub belongs : Belongs units b p.instance.unit.size p.instance.index
    pub place : p.place < length (candidates units b)
    pub rank : is_symbolic p.instance.unit.cells ≡ true → p.rank < length (symbolic (candidates units b))
    pub count : IsCellCount (symbol_count units) units.terms.ones p.instance.unit.cells

  counts_rise : (s : ℕ) → IsLoop units s → AllByRecursion RowRises (loop_rows b s)
  counts_rise s l = (
    size_first (pos 1) s l.0 (minus once (Exists s) (numbers_below (b s))) from_keys (omega arith) (counters_rise (λ t. neg_ℤ (pos 1)) s (b s) refl l),
    (
      size_first (neg_ℤ (pos 1)) s l.0 (plus once (Exists s) (numbers_below (b s))) from_keys (omega arith) (counters_rise (λ t. pos 1) s (b s) refl l),
      each_mapped (falling_row s) RowRises (numbers_below (b s - 1)) (all_upto (λ i. RowRises (falling_row s i)) (b s - 1) (λ i k. (omega arith, (omega arith, omega (arith, counter_small s (i + 1) l (omega arith)))))),
    ),
  )

  key_rise : (j : StepKey) (a c : ℤ) → j.symbol < symbol_count units → j.place < length (step_keys units.terms b) → Rises (part a (Size j.symbol) ∷ part c (Reached j) ∷ [])
  key_rise j a c h k = (omega arith, (omega (arith, h), omega (arith, k)))

  places_rise : (p : Candidate) → IsOrderly p → AllByRecursion RowRises (stand_rows target.stages p)
  places_rise p k = (
    two_rise (exists_parts (neg_ℤ (pos 1)) p.instance.unit.size p.instance.index) (plus once (Stands p) (numbers_below target.stages)) from_stands from_held (omega arith) (wide num (exists_parts (neg_ℤ (pos 1)) p.instance.unit.size p.instance.index) from_loops from_keys from_stands (omega arith) (exists_rise (neg_ℤ (pos 1)) p.instance.unit.size p.instance.index k.belongs)) (stands_rise (λ t. pos 1) p k.place),
    (two_rise (exists_parts (pos 1) p.instance.unit.size p.instance.index) (minus once (Stands p) (numbers_below target.stages)) from_stands from_held (omega arith) (wide num (exists_parts (pos 1) p.instance.unit.size p.instance.index) from_loops from_keys from_stands (omega arith) (exists_rise (pos 1) p.instance.unit.size p.instance.index k.belongs)) (stands_rise (λ t. neg_ℤ (pos 1)) p k.place), tt),
  )

  block_end : (p n m t : ℕ) → p < n → t < m → p * m + t + 1 ≤ n * m
  block_end p n m t h k = let le : p + 1 ≤ n = omega arith in omega (arith, mul-le-mul_left m le)

  cells_rise : (p : Candidate) (c : Option Cells) → p.instance.unit.cells ≡ c → IsOrderly p → AllByRecursion RowRises (cell_rows target.stages b p c)
  cells_rise p None e k = tt
  cells_rise p (Some (Fixed n)) e k = tt
  cells_rise p (Some (Symbol s)) e k =
      let rank = k.rank (ap is_symbolic e) in
      let small : s < symbol_count units = (subst (IsCellCount (symbol_count units) units.terms.ones) e k.count).0 in
      each_append RowRises (map (only_row (b s) p) (numbers_below target.stages)) (whole_row target.stages (b s) p s ∷ [])
      (each_mapped (only_row (b s) p) RowRises (numbers_below target.stages) (all_upto (λ t. RowRises (only_row (b s) p t)) target.stages (λ t l.
      (omega arith, (omega (arith, block_end p.place (length (candidates units b)) target.stages t k.place l), omega (arith, block_end p.rank (length (symbolic (candidates units b))) target.stages t rank l))))))
      (size_first (pos 1) s small (exists_parts (pos (b s)) p.instance.unit.size p.instance.index ++ minus once (Held p) (numbers_below target.stages)) past_all (omega arith) (between_append num from_loops from_held past_all (exists_parts (pos (b s)) p.instance.unit.size p.instance.index) (minus once (Held p) (numbers_below target.stages)) (wide num (exists_parts (pos (b s)) p.instance.unit.size p.instance.index) from_loops from_keys from_held (omega arith) (exists_rise (pos (b s)) p.instance.unit.size p.instance.index k.belongs)) (held_rise (λ t. neg_ℤ (pos 1)) p rank)), tt)

  stage_stands : (f : Candidate → ℤ) (t : ℕ) → t < target.stages → Between num (from_stands + t) (from_held + t) (map (λ p. part (f p) (Stands p t)) (candidates units b))
  stage_stands f t l =
      let e : length (candidates units b) ≡ 0 + length (instances units.list b) = candidates_length 0 0 (instances units.list b) in
      let q = ap (λ v. v * target.stages) e in
      wide num (map (λ p. part (f p) (Stands p t)) (candidates units b)) (from_stands + t) (from_stands + ((0 + length (instances units.list b)) * target.stages + t)) (from_held + t) (omega (arith, q))
      (between_low num (from_stands + (0 * target.stages + t)) (from_stands + t) _ (map (λ p. part (f p) (Stands p t)) (candidates units b)) (omega arith) (between_candidates num from_stands target.stages t f l (λ p. omega arith) 0 0 (instances units.list b)))
    where
      candidates_length : (n k : ℕ) (ps : List Instance) → length (candidates_from n k ps) ≡ 0 + length ps
      candidates_length n k [] = omega arith
      candidates_length n k (p ∷ ps) = omega (arith, candidates_length (n + 1) (k + bit (is_symbolic p.unit.cells)) ps)

  plain_rise : (f : Candidate → ℤ) (t : ℕ) → t < target.stages → Rises (map (λ p. part (f p) (Stands p t)) (candidates units b) ++ [])
  plain_rise f t l =
      between_low num (from_stands + t) 0 past_all (map (λ p. part (f p) (Stands p t)) (candidates units b) ++ []) (omega arith)
      (between_append num (from_stands + t) (from_held + t) past_all (map (λ p. part (f p) (Stands p t)) (candidates units b)) [] (stage_stands f t l) (omega arith))

  memory_rise : (f g : Candidate → ℤ) (t : ℕ) → t < target.stages → Rises (map (λ p. part (f p) (Stands p t)) (candidates units b) ++ map (λ p. part (g p) (Held p t)) (symbolic (candidates units b)))
  memory_rise f g t l =
      between_low num (from_stands + t) 0 past_all (map (λ p. part (f p) (Stands p t)) (candidates units b) ++ map (λ p. part (g p) (Held p t)) (symbolic (candidates units b))) (omega arith)
      (between_append num (from_stands + t) (from_held + t) past_all (map (λ p. part (f p) (Stands p t)) (candidates units b)) (map (λ p. part (g p) (Held p t)) (symbolic (candidates units b))) (stage_stands f t l)
      (between_low num (from_held + (0 * target.stages + t)) (from_held + t) past_all (map (λ p. part (g p) (Held p t)) (symbolic (candidates units b))) (omega arith)
      (wide num (map (λ p. part (g p) (Held p t)) (symbolic (candidates units b))) (from_held + (0 * target.stages + t)) (from_held + ((0 + length (symbolic (candidates units b))) * target.stages + t)) past_all (omega arith) (between_symbolic num from_held target.stages t g l (λ p. omega arith) 0 0 (instances units.list b)))))

  use_rises : (t : ℕ) → t < target.stages → (kind : Resource) → RowRises (use_row target (candidates units b) t kind)
  use_rises t l resource.Memory = memory_rise (λ p. pos (taken_by resource.Memory (λ symbol. 0) p.instance.unit)) (λ p. pos p.instance.unit.cell_width) t l
  use_rises t l resource.Stateful = plain_rise (λ p. pos (taken_by resource.Stateful (λ symbol. 0) p.instance.unit)) t l
  use_rises t l resource.Stateless = plain_rise (λ p. pos (taken_by resource.Stateless (λ symbol. 0) p.instance.unit)) t l
  use_rises t l resource.TableBits = plain_rise (λ p. pos (taken_by resource.TableBits (λ symbol. 0) p.instance.unit)) t l
  use_rises t l resource.TernaryBits = plain_rise (λ p. pos (taken_by resource.TernaryBits (λ symbol. 0) p.instance.unit)) t l

  stages_rise : (t : ℕ) → t < target.stages → AllByRecursion RowRises (use_rows target (candidates units b) t)
  stages_rise t l = each_mapped (use_row target (candidates units b) t) RowRises resources (each_any (λ kind. RowRises (use_row target (candidates units b) t kind)) (λ kind. use_rises t l kind) resources)

  order_rise : (p q : Candidate) (low t : ℕ) → p.place < q.place → q.place < length (candidates units b) → RowRises (order_row target.stages p q low t)
  order_rise p q low t h k =
      between_low num (from_stands + p.place * target.stages) 0 past_all (order_row target.stages p q low t).parts (omega arith)
      (wide num (order_row target.stages p q low t).parts (from_stands + p.place * target.stages) (from_stands + (q.place * target.stages + target.stages)) past_all (omega (arith, row_end q.place (length (candidates units b)) target.stages k)) (between_order num from_stands target.stages low t (λ p t. omega arith) p q h))

  orders_rise : (p q : Candidate) (r : Relation) → p.place < q.place → q.place < length (candidates units b) → AllByRecursion RowRises (order_rows target.stages p q r)
  orders_rise p q Free h k = tt
  orders_rise p q NotAfter h k = each_mapped (λ t. order_row target.stages p q (t + 1) t) RowRises (numbers_below (target.stages - 1)) (each_any (λ t. RowRises (order_row target.stages p q (t + 1) t)) (λ t. order_rise p q (t + 1) t h k) (numbers_below (target.stages - 1)))
  orders_rise p q Before h k = each_mapped (λ t. order_row target.stages p q t t) RowRises (numbers_below target.stages) (each_any (λ t. RowRises (order_row target.stages p q t t)) (λ t. order_rise p q t t h k) (numbers_below target.stages))

  module _ (sound : IsSound units) where
    places_small : AllByRecursion (λ p. p.place < length (candidates units b)) (candidates units b)
    places_small = each_more (HasPlace 0 (candidates units b)) (λ p. p.place < length (candidates units b)) (λ p h. omega (arith, h.1, at_short (candidates units b) h.0 p h.2)) (candidates units b) (candidates_placed 0 0 (instances units.list b))

    ranks_small : AllByRecursion (λ p. is_symbolic p.instance.unit.cells ≡ true → p.rank < length (symbolic (candidates units b))) (candidates units b)
    ranks_small = each_more (HasRank 0 (candidates units b)) (λ p. is_symbolic p.instance.unit.cells ≡ true → p.rank < length (symbolic (candidates units b))) (λ p r e. (let h = r e in omega (arith, h.1, at_short (symbolic (candidates units b)) h.0 p h.2))) (candidates units b) (candidates_ranked 0 0 (instances units.list b))

    orderly : AllByRecursion IsOrderly (candidates units b)
    orderly =
        each_two (λ p. Belongs units b p.instance.unit.size p.instance.index) (λ p. (p.place < length (candidates units b)) × (is_symbolic p.instance.unit.cells ≡ true → p.rank < length (symbolic (candidates units b))) × IsCellCount (symbol_count units) units.terms.ones p.instance.unit.cells) IsOrderly (λ p x y. record { belongs = x; place = y.0; rank = y.1; count = y.2 }) (candidates units b) (candidates_belong units target b sound)
        (each_two (λ p. p.place < length (candidates units b)) (λ p. (is_symbolic p.instance.unit.cells ≡ true → p.rank < length (symbolic (candidates units b))) × IsCellCount (symbol_count units) units.terms.ones p.instance.unit.cells) (λ p. (p.place < length (candidates units b)) × (is_symbolic p.instance.unit.cells ≡ true → p.rank < length (symbolic (candidates units b))) × IsCellCount (symbol_count units) units.terms.ones p.instance.unit.cells) (λ p x y. (x, y.0, y.1)) (candidates units b) places_small
        (each_two (λ p. is_symbolic p.instance.unit.cells ≡ true → p.rank < length (symbolic (candidates units b))) (λ p. IsCellCount (symbol_count units) units.terms.ones p.instance.unit.cells) (λ p. (is_symbolic p.instance.unit.cells ≡ true → p.rank < length (symbolic (candidates units b))) × IsCellCount (symbol_count units) units.terms.ones p.instance.unit.cells) (λ p x y. (x, y)) (candidates units b) ranks_small (all_candidates (λ p. IsCellCount (symbol_count units) units.terms.ones p.unit.cells) 0 0 (instances units.list b) (instances_units (λ u. IsCellCount (symbol_count units) units.terms.ones u.cells) units b sound.counts))))

    keys_small : AllByRecursion (λ j. j.place < length (step_keys units.terms b)) (step_keys units.terms b)
    keys_small = each_more (KeyHasPlace 0 (step_keys units.terms b)) (λ j. j.place < length (step_keys units.terms b)) (λ j h. omega (arith, h.1, at_short (step_keys units.terms b) h.0 j h.2)) (step_keys units.terms b) (keys_placed b 0 units.terms.steps)

    whole : (ts : List NamedPart) → Between num 0 from_loops ts → Rises ts
    whole ts h = wide num ts 0 from_loops past_all (omega arith) h

    -- the terms of each row name their variables by rising number
    pub rows_rise : AllByRecursion RowRises (rows units target b)
    rows_rise = rows_together units target b RowRises (record {
      assumes = each_mapped (λ r. row (size_parts 0 r.by) r.most) RowRises units.terms.rows (each_more (λ r. length r.by ≤ symbol_count units) (λ r. RowRises (row (size_parts 0 r.by) r.most)) (λ r k. whole (size_parts 0 r.by) (sizes_rise r.by k)) units.terms.rows sound.rows);
      ones = each_mapped (λ s. row (part (neg_ℤ (pos 1)) (Size s) ∷ []) (neg_ℤ (pos 1))) RowRises units.terms.ones (each_more (λ s. s < symbol_count units) (λ s. RowRises (row (part (neg_ℤ (pos 1)) (Size s) ∷ []) (neg_ℤ (pos 1)))) (λ s k. whole (part (neg_ℤ (pos 1)) (Size s) ∷ []) (size_rise (neg_ℤ (pos 1)) s k)) units.terms.ones sound.ones);
      header = whole (size_parts 0 (map pos units.symbol_bits)) (sizes_rise (map pos units.symbol_bits) (omega (arith, length-map units.symbol_bits pos, sound.bits)));
      counts = all_filter (λ s. AllByRecursion RowRises (loop_rows b s)) (is_looped units.list) (numbers_below (symbol_count units)) (all_upto (λ s. is_looped units.list s ≡ true → AllByRecursion RowRises (loop_rows b s)) (symbol_count units) (λ s k e. counts_rise s (k, e)));
      keys = each_two (λ j. j.place < length (step_keys units.terms b)) (λ j. j.symbol < symbol_count units) (λ j. AllByRecursion RowRises (key_rows b j)) (λ j x y. (key_rise j (neg_ℤ (pos 1)) (pos j.key) y x, (key_rise j (pos 1) (neg_ℤ (pos (b j.symbol - j.key + 1))) y x, tt))) (step_keys units.terms b) keys_small (keys_symbols units target b 0 units.terms.steps sound.steps);
      places = each_more IsOrderly (λ p. AllByRecursion RowRises (stand_rows target.stages p)) places_rise (candidates units b) orderly;
      cells = each_more IsOrderly (λ p. AllByRecursion RowRises (cell_rows target.stages b p p.instance.unit.cells)) (λ p k. cells_rise p p.instance.unit.cells refl k) (candidates units b) orderly;
      stages = all_upto (λ t. AllByRecursion RowRises (use_rows target (candidates units b) t)) target.stages stages_rise;
      orders = later_more (λ p. p.place < length (candidates units b)) Ordered (λ p q. AllByRecursion RowRises (rows_of_pair target.stages (p, q))) (λ p q x y h. orders_rise p q (order_of p.instance q.instance) h y) (candidates units b) places_small (candidates_ordered 0 0 (instances units.list b));
    })

    pub objective_rises : Rises (objective units.terms b)
    objective_rises =
        let f : StepKey → ℤ = λ j. rise_of j in
        wide num (objective units.terms b) 0 from_stands past_all (omega arith)
        (between_append num 0 from_loops from_stands (size_parts 0 units.terms.by) (map (λ j. part (f j) (Reached j)) (step_keys units.terms b)) (sizes_rise units.terms.by sound.goal)
        (between_low num (from_keys + 0) from_loops from_stands (map (λ j. part (f j) (Reached j)) (step_keys units.terms b)) (omega arith)
        (wide num (map (λ j. part (f j) (Reached j)) (step_keys units.terms b)) (from_keys + 0) (from_keys + (0 + length (step_keys units.terms b))) from_stands (omega arith) (between_keys num from_keys f (λ j. omega arith) b 0 units.terms.steps))))
