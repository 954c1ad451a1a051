-- The nine groups of rows, apart and together; and what sizes are worth.
use Rattle.std.proofs.Common.{◌≡◌, ℕ, ℤ, pos, ◌+◌, ◌*◌, ◌+ℤ◌, ◌*ℤ◌, List, [], ◌∷◌, map, refl, ap, ◌∙◌, arith}
use Rattle.std.specs.Prelude.{flat_map}
use Rattle.std.specs.List.{AllByRecursion}
use Rattle.std.proofs.lemmas.Int.{ints}
use Rattle.elastic_ast.specs.Units.PlainUnits.{PlainUnits}
use Rattle.target_desc.specs.declared.target.Target.{Target}
use Rattle.dep_graph.specs.PlacementRules.{EachLater}
use Rattle.place_check.specs.FirstFault.{each_pair}
use Rattle.ilp_model.specs.Candidates.{Candidate, candidates}
use Rattle.ilp_model.specs.StepKeys.{step_keys}
use Rattle.ilp_model.specs.Variables.{Variable}
use Rattle.unroll_bound.specs.Counts.{numbers_below, looped_symbols}
use Rattle.ilp_model.specs.Variables.Variable.{Size}
use Rattle.ilp_model.specs.NamedRows.{NamedRow, sum_of}
use Rattle.ilp_model.specs.Rows.{size_parts, term_rows, one_rows, header_row, loop_rows, key_rows, stand_rows, cell_rows, use_rows, rows_of_pair, rows, rows_from_ones, rows_from_header, rows_from_keys, rows_from_stand, rows_from_cells, rows_from_use, rows_from_order}
use Rattle.ilp_model.proofs.Sums.{all_left, all_right, all_joined, all_unjoined, all_pairs, all_unpairs}
use Rattle.unroll_bound.proofs.Totals.{each_append}

-- the coefficients, from a symbol on, times the sizes
abbrev pub sizes_worth : List ℤ → (ℕ → ℕ) → ℕ → ℤ
sizes_worth [] z s = pos 0
sizes_worth (a ∷ by) z s = a *ℤ pos (z s) +ℤ sizes_worth by z (s + 1)

abbrev pub sizes_weigh : List ℕ → (ℕ → ℕ) → ℕ → ℕ
sizes_weigh [] z s = 0
sizes_weigh (w ∷ ws) z s = w * z s + sizes_weigh ws z (s + 1)

pub sum_of_sizes : (by : List ℤ) (s : ℕ) (n : Variable → ℕ) (z : ℕ → ℕ) → ((s : ℕ) → n (Size s) ≡ z s) → sum_of (size_parts s by) n ≡ sizes_worth by z s
sum_of_sizes [] s n z h = refl
sum_of_sizes (a ∷ by) s n z h = ap (λ v. a *ℤ pos v +ℤ sum_of (size_parts (s + 1) by) n) (h s) ∙ ap (λ w. a *ℤ pos (z s) +ℤ w) (sum_of_sizes by (s + 1) n z h)

pub worth_weigh : (ws : List ℕ) (z : ℕ → ℕ) (s : ℕ) → sizes_worth (map pos ws) z s ≡ pos (sizes_weigh ws z s)
worth_weigh [] z s = refl
worth_weigh (w ∷ ws) z s = omega (arith, ints, worth_weigh ws z (s + 1))

-- the nine groups
pub record AllRows (units : PlainUnits) (target : Target) (b : ℕ → ℕ) (P : NamedRow → Type 0) : Type 0 where
  pub assumes : AllByRecursion P (term_rows units)
  pub ones : AllByRecursion P (one_rows units)
  pub header : P (header_row units target)
  pub counts : AllByRecursion (λ s. AllByRecursion P (loop_rows b s)) (looped_symbols units)
  pub keys : AllByRecursion (λ j. AllByRecursion P (key_rows b j)) (step_keys units.terms b)
  pub places : AllByRecursion (λ p. AllByRecursion P (stand_rows target.stages p)) (candidates units b)
  pub cells : AllByRecursion (λ p. AllByRecursion P (cell_rows target.stages b p p.instance.unit.cells)) (candidates units b)
  pub stages : AllByRecursion (λ t. AllByRecursion P (use_rows target (candidates units b) t)) (numbers_below target.stages)
  pub orders : EachLater (λ p q. AllByRecursion P (rows_of_pair target.stages (p, q))) (candidates units b)

module _ (units : PlainUnits) (target : Target) (b : ℕ → ℕ) (P : NamedRow → Type 0) where
  pub rows_apart : AllByRecursion P (rows units target b) → AllRows units target b P
  rows_apart h =
      let h_assumes = all_right P (term_rows units) (rows_from_ones units target b) h in
      let h_ones = all_right P (one_rows units) (rows_from_header units target b) h_assumes in
      let h_counts = all_right P (flat_map (loop_rows b) (looped_symbols units)) (rows_from_keys units target b) h_ones.1 in
      let h_keys = all_right P (flat_map (key_rows b) (step_keys units.terms b)) (rows_from_stand units target b) h_counts in
      let h_places = all_right P (flat_map (stand_rows target.stages) (candidates units b)) (rows_from_cells units target b) h_keys in
      let h_cells = all_right P (flat_map (λ p. cell_rows target.stages b p p.instance.unit.cells) (candidates units b)) (rows_from_use units target b) h_places in
      let h_stages = all_right P (flat_map (use_rows target (candidates units b)) (numbers_below target.stages)) (rows_from_order units target b) h_cells in
      record {
        assumes = all_left P (term_rows units) (rows_from_ones units target b) h;
        ones = all_left P (one_rows units) (rows_from_header units target b) h_assumes;
        header = h_ones.0;
        counts = all_unjoined (loop_rows b) P (looped_symbols units) (all_left P (flat_map (loop_rows b) (looped_symbols units)) (rows_from_keys units target b) h_ones.1);
        keys = all_unjoined (key_rows b) P (step_keys units.terms b) (all_left P (flat_map (key_rows b) (step_keys units.terms b)) (rows_from_stand units target b) h_counts);
        places = all_unjoined (stand_rows target.stages) P (candidates units b) (all_left P (flat_map (stand_rows target.stages) (candidates units b)) (rows_from_cells units target b) h_keys);
        cells = all_unjoined (λ p. cell_rows target.stages b p p.instance.unit.cells) P (candidates units b) (all_left P (flat_map (λ p. cell_rows target.stages b p p.instance.unit.cells) (candidates units b)) (rows_from_use units target b) h_places);
        stages = all_unjoined (use_rows target (candidates units b)) P (numbers_below target.stages) (all_left P (flat_map (use_rows target (candidates units b)) (numbers_below target.stages)) (rows_from_order units target b) h_cells);
        orders = all_unpairs (λ (w : Candidate × Candidate). AllByRecursion P (rows_of_pair target.stages w)) (candidates units b) (all_unjoined (rows_of_pair target.stages) P (each_pair (candidates units b)) h_stages);
      }

  pub rows_together : AllRows units target b P → AllByRecursion P (rows units target b)
  rows_together r =
      (each_append P (term_rows units) (rows_from_ones units target b) r.assumes
      (each_append P (one_rows units) (rows_from_header units target b) r.ones (
        r.header,
        (each_append P (flat_map (loop_rows b) (looped_symbols units)) (rows_from_keys units target b) (all_joined (loop_rows b) P (looped_symbols units) r.counts)
            (each_append P (flat_map (key_rows b) (step_keys units.terms b)) (rows_from_stand units target b) (all_joined (key_rows b) P (step_keys units.terms b) r.keys)
            (each_append P (flat_map (stand_rows target.stages) (candidates units b)) (rows_from_cells units target b) (all_joined (stand_rows target.stages) P (candidates units b) r.places)
            (each_append P (flat_map (λ p. cell_rows target.stages b p p.instance.unit.cells) (candidates units b)) (rows_from_use units target b) (all_joined (λ p. cell_rows target.stages b p p.instance.unit.cells) P (candidates units b) r.cells)
            (each_append P (flat_map (use_rows target (candidates units b)) (numbers_below target.stages)) (rows_from_order units target b) (all_joined (use_rows target (candidates units b)) P (numbers_below target.stages) r.stages)
            (all_joined (rows_of_pair target.stages) P (each_pair (candidates units b)) (all_pairs (λ (w : Candidate × Candidate). AllByRecursion P (rows_of_pair target.stages w)) (candidates units b) r.orders))))))),
      )))
