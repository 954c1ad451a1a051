-- How many variables and rows there are.
use Rattle.std.proofs.Common.{◌≡◌, ℕ, pos, neg_ℤ, ◌+◌, ◌-◌, ◌*◌, ◌≤◌, Bool, true, false, cond, ◌&&◌, List, [], ◌∷◌, ◌++◌, map, length, filter, Option, Some, None, refl, sym, ap, ◌∙◌, arith}
use Rattle.std.specs.Prelude.{nat_le, flat_map, count_by}
use Rattle.std.specs.List.{AllByRecursion}
use Rattle.std.proofs.lemmas.List.{length-append, length-map}
use Rattle.std.proofs.lemmas.List.Sums.{sum_by-cons}
use Rattle.std.proofs.lemmas.Bool.Decides.{nat_tests}
use Rattle.elastic_ast.specs.declared.flat.Cells.{Cells}
use Rattle.elastic_ast.specs.declared.flat.Cells.TheVariants.{Fixed, Symbol}
use Rattle.elastic_ast.specs.declared.flat.Steps.{Steps}
use Rattle.elastic_ast.specs.Meaning.Values.{bit}
use Rattle.elastic_ast.specs.Units.PlainUnits.{PlainUnits}
use Rattle.elastic_ast.specs.Units.Instances.{Instance, instances}
use Rattle.elastic_ast.specs.Units.Order.{Relation, order_of}
use Rattle.elastic_ast.specs.Units.Order.Relation.{Free, NotAfter, Before}
use Rattle.target_desc.specs.declared.target.Target.{Target}
use Rattle.place_check.specs.FirstFault.{each_pair}
use Rattle.unit_flow.specs.SoundUnits.{RiseAbove, IsStepTable}
use Rattle.unroll_bound.specs.Counts as counts
use Rattle.unroll_bound.specs.Counts.{instance_count, is_symbolic, symbolic_count, numbers_below, looped_symbols, is_reached, keys_reached, key_count, variable_count, relation_rows, row_count}
use Rattle.unroll_bound.proofs.CountLaws.{instances_counted}
use Rattle.ilp_model.specs.Candidates.{Candidate, candidates_from, candidates, symbolic}
use Rattle.ilp_model.specs.StepKeys.{keys_after, keys_of_pairs, keys_from, step_keys}
use Rattle.ilp_model.specs.Variables.{symbol_count, variables, variable_number}
use Rattle.ilp_model.specs.Variables.Variable.{Size, Reached, Stands, Held}
use Rattle.ilp_model.specs.NamedRows.{part, row}
use Rattle.ilp_model.specs.Rows.{size_parts, falling_row, loop_rows, key_rows, stand_rows, only_row, whole_row, cell_rows, use_rows, order_row, order_rows, rows_of_pair, term_rows, one_rows, rows, rows_from_ones, rows_from_header, rows_from_keys, rows_from_stand, rows_from_cells, rows_from_use, rows_from_order}
use Rattle.ilp_model.specs.IpOf.{row_of}
use Rattle.ilp_model.specs.InLimits.{VariablesAndRowsAreCounted}
use Rattle.ilp_model.proofs.Totals.{total, sum_is_total}
use Rattle.ilp_model.proofs.Places.{existing, all_existing_length, length-numbers, length-flat_map_even}
use Rattle.ilp_model.proofs.Lists.{from_all}

-- the lengths of lists that are put together
length_each : {A B : Type 0} (f : A → List B) (n : A → ℕ) → ((x : A) → length (f x) ≡ n x) → (xs : List A) → length (flat_map f xs) ≡ total n xs
length_each f n h [] = refl
length_each f n h (x ∷ xs) = omega (arith, length-append (f x) (flat_map f xs), h x, length_each f n h xs)

total_same : {A : Type 0} (f g : A → ℕ) → ((x : A) → f x ≡ g x) → (xs : List A) → total f xs ≡ total g xs
total_same f g h [] = refl
total_same f g h (x ∷ xs) = omega (arith, h x, total_same f g h xs)

-- the instances at the bounds
candidates_length : (n k : ℕ) (ps : List Instance) → length (candidates_from n k ps) ≡ length ps
candidates_length n k [] = refl
candidates_length n k (p ∷ ps) = omega (arith, candidates_length (n + 1) (k + bit (is_symbolic p.unit.cells)) ps)

symbolic_length : (n k : ℕ) (ps : List Instance) → length (symbolic (candidates_from n k ps)) ≡ length (filter (λ one. is_symbolic one.unit.cells) ps)
symbolic_length n k [] = refl
symbolic_length n k (p ∷ ps) = go (is_symbolic p.unit.cells) (λ j. symbolic_length (n + 1) j ps)
  where
    after : ℕ → List Candidate
    after j = symbolic (candidates_from (n + 1) j ps)

    kept : List Instance
    kept = filter (λ one. is_symbolic one.unit.cells) ps

    go : (v : Bool) → ((j : ℕ) → length (after j) ≡ length kept) → length (cond v (record { place = n; rank = k; instance = p } ∷ after (k + bit v)) (after (k + bit v))) ≡ length (cond v (p ∷ kept) kept)
    go true ih = omega (arith, ih (k + 1))
    go false ih = ih (k + 0)

-- the keys of step tables
after_length : (b : ℕ → ℕ) (m : Bool) (s j v k : ℕ) (ps : List (ℕ × ℕ)) → RiseAbove k ps → length (keys_after b m s j v ps) ≡ count_by (is_reached (b s)) ps
after_length b m s j v k [] r = refl
after_length b m s j v k (p ∷ ps) r =
    go (nat_le p.0 (b s)) (nat_le 1 p.0) (above p.0 (let l = r.0 in omega (arith, l))) (λ i. after_length b m s i p.1 p.0 ps r.1)
    ∙ sym (sum_by-cons (λ q. cond (is_reached (b s) q) 1 0) p ps)
  where
    above : (x : ℕ) → 1 ≤ x → nat_le 1 x ≡ true
    above x h = grind (arith, nat_tests)

    go : (t u : Bool) → u ≡ true → ((i : ℕ) → length (keys_after b m s i p.1 ps) ≡ count_by (is_reached (b s)) ps) → length (cond t (record { place = j; minus = m; symbol = s; key = p.0; value = p.1; before = v } ∷ keys_after b m s (j + 1) p.1 ps) (keys_after b m s j p.1 ps)) ≡ cond (u && t) 1 0 + count_by (is_reached (b s)) ps
    go true true e ih = omega (arith, ih (j + 1))
    go false true e ih = omega (arith, ih j)
    go t false e ih = cc

keys_length : (b : ℕ → ℕ) (j : ℕ) (ts : List Steps) → AllByRecursion (λ t. IsStepTable t.pairs) ts → length (keys_from b j ts) ≡ total (keys_reached b) ts
keys_length b j [] h = refl
keys_length b j (t ∷ ts) h =
    omega (arith, length-append (keys_of_pairs b t.minus t.symbol j t.pairs) (keys_from b (j + length (keys_of_pairs b t.minus t.symbol j t.pairs)) ts), of_pairs t.pairs h.0, keys_length b (j + length (keys_of_pairs b t.minus t.symbol j t.pairs)) ts h.1)
  where
    of_pairs : (ps : List (ℕ × ℕ)) → IsStepTable ps → length (keys_of_pairs b t.minus t.symbol j ps) ≡ count_by (is_reached (b t.symbol)) ps
    of_pairs [] h = absurd h
    of_pairs (p ∷ ps) h =
        let first = sum_by-cons (λ q. cond (is_reached (b t.symbol) q) 1 0) p ps in
        let no = ap (λ v. cond {A = ℕ} (v && nat_le p.0 (b t.symbol)) 1 0) (none p.0 h.0) in
        omega (arith, after_length b t.minus t.symbol j p.1 0 ps h.1, first, no)
      where
        none : (x : ℕ) → x ≡ 0 → nat_le 1 x ≡ false
        none x e = grind (arith, nat_tests)

-- the rows of orders
relation_length : (m : ℕ) (p q : Candidate) (r : Relation) → length (order_rows m p q r) ≡ relation_rows m r
relation_length m p q Free = refl
relation_length m p q NotAfter = length-map (numbers_below (m - 1)) (λ t. order_row m p q (t + 1) t) ∙ length-numbers (m - 1)
relation_length m p q Before = length-map (numbers_below m) (λ t. order_row m p q t t) ∙ length-numbers m

with_later : (m n k : ℕ) (p : Candidate) (ps : List Instance) → total (λ q. relation_rows m (order_of p.instance q.instance)) (candidates_from n k ps) ≡ total (λ q. relation_rows m (order_of p.instance q)) ps
with_later m n k p [] = refl
with_later m n k p (q ∷ ps) = omega (arith, with_later m (n + 1) (k + bit (is_symbolic q.unit.cells)) p ps)

total_pairs : {A : Type 0} (f : A × A → ℕ) (x : A) (xs : List A) → total f (map (λ (y : A). (x, y)) xs ++ each_pair xs) ≡ total (λ y. f (x, y)) xs + total f (each_pair xs)
total_pairs {A} f x xs = go xs
  where
    go : (ys : List A) → total f (map (λ (y : A). (x, y)) ys ++ each_pair xs) ≡ total (λ y. f (x, y)) ys + total f (each_pair xs)
    go [] = omega arith
    go (y ∷ ys) = omega (arith, go ys)

orders_length : (m n k : ℕ) (ps : List Instance) → total (λ (w : Candidate × Candidate). relation_rows m (order_of w.0.instance w.1.instance)) (each_pair (candidates_from n k ps)) ≡ counts.order_row_count m ps
orders_length m n k [] = refl
orders_length m n k (p ∷ ps) =
    let now : Candidate = record { place = n; rank = k; instance = p } in
    let after = candidates_from (n + 1) (k + bit (is_symbolic p.unit.cells)) ps in
    omega (
      arith,
      total_pairs (λ (w : Candidate × Candidate). relation_rows m (order_of w.0.instance w.1.instance)) now after,
      with_later m (n + 1) (k + bit (is_symbolic p.unit.cells)) now ps,
      sum_is_total (λ q. relation_rows m (order_of p q)) ps,
      orders_length m (n + 1) (k + bit (is_symbolic p.unit.cells)) ps,
    )

-- the rows of cells
cells_length : (m : ℕ) (b : ℕ → ℕ) (p : Candidate) (c : Option Cells) → length (cell_rows m b p c) ≡ cond (is_symbolic c) (m + 1) 0
cells_length m b p None = refl
cells_length m b p (Some (Fixed n)) = refl
cells_length m b p (Some (Symbol s)) = omega (arith, length-append (map (only_row (b s) p) (numbers_below m)) (whole_row m (b s) p s ∷ []), length-map (numbers_below m) (only_row (b s) p), length-numbers m)

count_times : {A : Type 0} (test : A → Bool) (c : ℕ) (xs : List A) → total (λ x. cond (test x) c 0) xs ≡ length (filter test xs) * c
count_times test c [] = omega arith
count_times {A} test c (x ∷ xs) = go (test x) (count_times test c xs)
  where
    go : (v : Bool) → total (λ x. cond (test x) c 0) xs ≡ length (filter test xs) * c → cond v c 0 + total (λ x. cond (test x) c 0) xs ≡ length (cond v (x ∷ filter test xs) (filter test xs)) * c
    go true e = omega (arith, e)
    go false e = omega (arith, e)

module _ (units : PlainUnits) (target : Target) (b : ℕ → ℕ) (tables : AllByRecursion (λ t. IsStepTable t.pairs) units.terms.steps) where
  pub all_candidates_length : length (candidates units b) ≡ instance_count units.list b
  all_candidates_length = candidates_length 0 0 (instances units.list b) ∙ (instances_counted units.list b).all

  pub all_symbolic_length : length (symbolic (candidates units b)) ≡ symbolic_count units.list b
  all_symbolic_length = symbolic_length 0 0 (instances units.list b) ∙ (instances_counted units.list b).symbolic

  pub all_keys_length : length (step_keys units.terms b) ≡ key_count units.terms.steps b
  all_keys_length = keys_length b 0 units.terms.steps tables ∙ sym (sum_is_total (keys_reached b) units.terms.steps)

  variables_length : length (variables units target b) ≡ variable_count units target b
  variables_length =
      let sizes = map Size (numbers_below (symbol_count units)) in
      let loops = flat_map (existing units b) (looped_symbols units) in
      let keys = map Reached (step_keys units.terms b) in
      let stands = flat_map (λ p. map (Stands p) (numbers_below target.stages)) (candidates units b) in
      let held = flat_map (λ p. map (Held p) (numbers_below target.stages)) (symbolic (candidates units b)) in
      let stand_times = ap (λ v. v * target.stages) all_candidates_length in
      let held_times = ap (λ v. v * target.stages) all_symbolic_length in
      omega (
        arith,
        length-append sizes (loops ++ (keys ++ (stands ++ held))),
        length-append loops (keys ++ (stands ++ held)),
        length-append keys (stands ++ held),
        length-append stands held,
        length-map (numbers_below (symbol_count units)) Size,
        length-numbers (symbol_count units),
        all_existing_length units b (looped_symbols units),
        sum_is_total b (looped_symbols units),
        length-map (step_keys units.terms b) Reached,
        all_keys_length,
        length-flat_map_even (λ p. map (Stands p) (numbers_below target.stages)) target.stages (λ p. length-map (numbers_below target.stages) (Stands p) ∙ length-numbers target.stages) (candidates units b),
        length-flat_map_even (λ p. map (Held p) (numbers_below target.stages)) target.stages (λ p. length-map (numbers_below target.stages) (Held p) ∙ length-numbers target.stages) (symbolic (candidates units b)),
        stand_times,
        held_times,
      )

  loop_length : (s : ℕ) → length (loop_rows b s) ≡ counts.loop_row_count b s
  loop_length s = omega (arith, length-map (numbers_below (b s - 1)) (falling_row s), length-numbers (b s - 1))

  rows_length : length (rows units target b) ≡ row_count units target b
  rows_length =
      let loops = flat_map (loop_rows b) (looped_symbols units) in
      let keys = flat_map (key_rows b) (step_keys units.terms b) in
      let stands = flat_map (stand_rows target.stages) (candidates units b) in
      let cells = flat_map (λ p. cell_rows target.stages b p p.instance.unit.cells) (candidates units b) in
      let uses = flat_map (use_rows target (candidates units b)) (numbers_below target.stages) in
      let cell_times = ap (λ v. v * (target.stages + 1)) all_symbolic_length in
      omega (
        arith,
        length-append (term_rows units) (rows_from_ones units target b),
        length-map units.terms.rows (λ linear. row (size_parts 0 linear.by) linear.most),
        length-append (one_rows units) (rows_from_header units target b),
        length-map units.terms.ones (λ symbol. row (part (neg_ℤ (pos 1)) (Size symbol) ∷ []) (neg_ℤ (pos 1))),
        length-append loops (rows_from_keys units target b),
        length-append keys (rows_from_stand units target b),
        length-append stands (rows_from_cells units target b),
        length-append cells (rows_from_use units target b),
        length-append uses (rows_from_order units target b),
        length_each (loop_rows b) (counts.loop_row_count b) loop_length (looped_symbols units),
        sum_is_total (counts.loop_row_count b) (looped_symbols units),
        length-flat_map_even (key_rows b) 2 (λ j. refl) (step_keys units.terms b),
        all_keys_length,
        length-flat_map_even (stand_rows target.stages) 2 (λ p. refl) (candidates units b),
        all_candidates_length,
        length_each (λ p. cell_rows target.stages b p p.instance.unit.cells) (λ p. cond (is_symbolic p.instance.unit.cells) (target.stages + 1) 0) (λ p. cells_length target.stages b p p.instance.unit.cells) (candidates units b),
        count_times (λ p. is_symbolic p.instance.unit.cells) (target.stages + 1) (candidates units b),
        cell_times,
        length-flat_map_even (use_rows target (candidates units b)) 5 (λ t. refl) (numbers_below target.stages),
        length-numbers target.stages,
        length_each (rows_of_pair target.stages) (λ (w : Candidate × Candidate). relation_rows target.stages (order_of w.0.instance w.1.instance)) (λ w. relation_length target.stages w.0 w.1 (order_of w.0.instance w.1.instance)) (each_pair (candidates units b)),
        orders_length target.stages 0 0 (instances units.list b),
      )

pub variables_and_rows_are_counted : VariablesAndRowsAreCounted
variables_and_rows_are_counted units target b sound =
    let tables = from_all (λ t. IsStepTable t.pairs) units.terms.steps sound.tables in
    record {
      variables = length-map (variables units target b) _ ∙ variables_length units target b tables;
      rows = length-map (rows units target b) (row_of (variable_number units target b)) ∙ rows_length units target b tables;
    }
