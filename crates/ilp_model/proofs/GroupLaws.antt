-- What the rows of sizes, loops and keys ask of numbers, and that together they are those of the integer program.
use Rattle.std.proofs.Common.{◌≡◌, ℕ, zero, suc, pos, ◌+◌, ◌<◌, ◌≤◌, ◌^◌, ◌-ℤ◌, List, [], ◌∷◌, ◌++◌, map, length, append_assoc, refl, sym, ap, ap₂, ◌∙◌, subst, arith, ⊎_elim}
use Rattle.std.specs.Prelude.{flat_map, All}
use Rattle.std.specs.List.{AllByRecursion}
use Rattle.std.proofs.lemmas.Bool.{cases_lt}
use Rattle.std.proofs.lemmas.List.{map-append}
use Rattle.std.proofs.lemmas.List.Elements.{All-weaker}
use Rattle.elastic_ast.specs.declared.flat.Linear.{Linear}
use Rattle.elastic_ast.specs.declared.flat.Steps.{Steps}
use Rattle.elastic_ast.specs.Units.PlainUnits.{PlainUnits}
use Rattle.elastic_ast.specs.Units.Instances.{nth_size, each_turn}
use Rattle.int_program.specs.declared.program.Row.{Row}
use Rattle.target_desc.specs.declared.target.Target.{Target}
use Rattle.size_terms.specs.Rows.{IsShort, IsNearTable}
use Rattle.unit_flow.specs.SoundUnits.{SoundUnits}
use Rattle.unroll_bound.specs.BoundAnswers.{AreBoundsWithin}
use Rattle.unroll_bound.specs.Counts.{looped_symbols, is_looped, variable_count}
use Rattle.unroll_bound.specs.LoopUses.{loop_use}
use Rattle.unroll_bound.specs.declared.loop_uses.LoopUse.{LoopUse}
use Rattle.unroll_bound.specs.SymbolLists.{IsListOf}
use Rattle.unroll_bound.proofs.Totals.{each_more}
use Rattle.ilp_model.specs.declared.numbering.Numbering.{Numbering}
use Rattle.ilp_model.specs.declared.step_keys.ReachedKey.{ReachedKey}
use Rattle.ilp_model.specs.SeenKeys.{seen_key, seen_keys}
use Rattle.ilp_model.specs.StepKeys.{StepKey, step_keys}
use Rattle.ilp_model.specs.Variables.{Variable, symbol_count, variable_number}
use Rattle.ilp_model.specs.Variables.Variable.{Reached}
use Rattle.ilp_model.specs.Numbers.{AreNumbers}
use Rattle.ilp_model.specs.Marks.{is_marked}
use Rattle.ilp_model.specs.NamedRows.{NamedRow, part}
use Rattle.ilp_model.specs.Rows.{size_parts, term_rows, one_rows, header_row, loop_rows, key_rows, size_groups, rows, rows_from_stand}
use Rattle.ilp_model.specs.Objective.{rise_of, objective}
use Rattle.ilp_model.specs.IpOf.{row_of, parts_of}
use Rattle.ilp_model.specs.Written.{written_sizes, written_row, written_term, written_one, written_marked, written_keys, written_rise}
use Rattle.ilp_model.proofs.Bridging.{sizes_parts}
use Rattle.ilp_model.proofs.Known.{keys_symbols}
use Rattle.ilp_model.proofs.Lists.{from_all, to_all, past}
use Rattle.ilp_model.proofs.NumberLaws.{marked_up, marks_are, keys_within}
use Rattle.ilp_model.proofs.Places.{IsAt, KeyHasPlace, keys_placed}
use Rattle.ilp_model.proofs.SizesWritten.{terms_written, ones_written, loops_written, keys_written, objective_written}
use Rattle.ilp_model.proofs.Sums.{all_unmap}

-- a thing that stands in a list stands before its end
at_within : {A : Type 0} (xs : List A) (k : ℕ) (x : A) → IsAt xs k x → k < length xs
at_within [] k x h = absurd h
at_within (y ∷ xs) zero x h = omega arith
at_within (y ∷ xs) (suc k) x h = omega (arith, at_within xs k x h)

module _ (units : PlainUnits) (target : Target) (bounds : List ℕ) (sound : SoundUnits units) (within : AreBoundsWithin units target bounds)
    (numbers : Numbering) (are : AreNumbers units target (nth_size bounds) numbers) where
  abbrev num : Variable → ℕ
  num = variable_number units target (nth_size bounds)

  -- the coefficients are few
  pub short_rows : All (λ (linear : Linear). length linear.by ≤ 2 ^ 32) units.terms.rows
  short_rows =
      All-weaker (λ (linear : Linear). IsShort (symbol_count units) linear.by linear.most) (λ (linear : Linear). length linear.by ≤ 2 ^ 32)
      (λ linear k. (let e = k.dense in let n = sound.numbered in omega (arith, e, n))) units.terms.rows sound.short.rows

  -- the variables of loops
  loops_low : (s : ℕ) → s < symbol_count units → nth_size numbers.loops s ≤ variable_count units target (nth_size bounds)
  loops_low s l =
      let here = are.loops s l in
      omega (arith, here, marked_up (nth_size bounds) (is_looped units.list) s (symbol_count units) (omega (arith, l)), keys_within units target (nth_size bounds) sound)

  bound_low : (s : ℕ) → nth_size bounds s ≤ 1000000000
  bound_low s =
      ⊎_elim (λ lt. within.small s 0 lt) (λ le. (let e : nth_size bounds s ≡ 0 = past bounds s 0 le in omega (arith, e))) (cases_lt s (length bounds))

  pub loops_near : (s : ℕ) → nth_size numbers.loops s + nth_size bounds s < 2 ^ 32
  loops_near s = ⊎_elim before behind (cases_lt s (symbol_count units))
    where
      before : s < symbol_count units → nth_size numbers.loops s + nth_size bounds s < 2 ^ 32
      before l = let few = are.few in omega (arith, few, loops_low s l, bound_low s)

      behind : symbol_count units ≤ s → nth_size numbers.loops s + nth_size bounds s < 2 ^ 32
      behind l =
          let d = are.dense in
          let e : nth_size numbers.loops s ≡ 0 = past numbers.loops s 0 (omega (arith, d, l)) in
          omega (arith, e, bound_low s)

  -- keys
  module _ (keys : List ReachedKey) (seen : seen_keys keys ≡ step_keys units.terms (nth_size bounds)) where
    pub keys_of_symbols : All (λ (key : ReachedKey). key.symbol < length bounds) keys
    keys_of_symbols =
        let d = within.found.dense in
        to_all (λ (key : ReachedKey). key.symbol < length bounds) keys
        (all_unmap seen_key (λ key. key.symbol < length bounds) keys
        (subst (λ z. AllByRecursion (λ (key : StepKey). key.symbol < length bounds) z) (sym seen)
        (subst (λ n. AllByRecursion (λ (key : StepKey). key.symbol < n) (step_keys units.terms (nth_size bounds))) (sym d)
        (keys_symbols units target (nth_size bounds) 0 units.terms.steps (each_more (IsNearTable (symbol_count units)) (λ (t : Steps). t.symbol < symbol_count units) (λ t k. k.place) units.terms.steps (from_all (IsNearTable (symbol_count units)) units.terms.steps sound.short.tables))))))

    pub keys_numbered : All (λ (key : ReachedKey). numbers.keys + key.place < 2 ^ 32) keys
    keys_numbered =
        to_all (λ (key : ReachedKey). numbers.keys + key.place < 2 ^ 32) keys
        (all_unmap seen_key (λ key. numbers.keys + key.place < 2 ^ 32) keys
        (subst (λ z. AllByRecursion (λ (key : StepKey). numbers.keys + key.place < 2 ^ 32) z) (sym seen)
        (each_more (KeyHasPlace 0 (step_keys units.terms (nth_size bounds))) (λ key. numbers.keys + key.place < 2 ^ 32)
        (λ key h. (let k = are.keys in let few = are.few in omega (arith, k, few, h.1, at_within (step_keys units.terms (nth_size bounds)) h.0 key h.2, keys_within units target (nth_size bounds) sound)))
        (step_keys units.terms (nth_size bounds)) (keys_placed (nth_size bounds) 0 units.terms.steps))))

    reached : (key : StepKey) → num (Reached key) ≡ numbers.keys + key.place
    reached key = ap (λ n. n + key.place) (sym are.keys)

    -- all five groups
    pub groups_written : (uses : List LoopUse) → IsListOf (length bounds) (loop_use units.list) uses
        → (((map written_term units.terms.rows ++ map written_one units.terms.ones)
        ++ written_row (written_sizes 0 (map pos units.symbol_bits)) (pos target.header_bits -ℤ pos units.fixed_bits) ∷ [])
        ++ each_turn (length numbers.loops) (written_marked (is_marked uses) (nth_size numbers.loops) (nth_size bounds)))
        ++ flat_map (written_keys numbers.keys (nth_size bounds)) keys
        ≡ map (row_of num) (size_groups units target (nth_size bounds))
    groups_written uses marks =
        append_assoc ((t ++ o) ++ h ∷ []) l k
        ∙ append_assoc (t ++ o) (h ∷ []) (l ++ k)
        ∙ append_assoc t o (h ∷ (l ++ k))
        ∙ ap₂ (λ z w. z ++ w) (sym (terms_written num (λ s. refl) units.terms.rows))
        (ap₂ (λ z w. z ++ w) (sym (ones_written num (λ s. refl) units.terms.ones))
        (ap₂ (λ z w. written_row z (pos target.header_bits -ℤ pos units.fixed_bits) ∷ w) (sym (sizes_parts num (map pos units.symbol_bits) 0 (λ s. refl)))
        (ap₂ (λ z w. z ++ w) (sym loops) (sym keys_all) ∙ sym (map-append (row_of num) (flat_map (loop_rows (nth_size bounds)) (looped_symbols units)) (flat_map (key_rows (nth_size bounds)) (step_keys units.terms (nth_size bounds)))))
        )
        ∙ sym (map-append (row_of num) (one_rows units) (header_row units target ∷ (flat_map (loop_rows (nth_size bounds)) (looped_symbols units) ++ flat_map (key_rows (nth_size bounds)) (step_keys units.terms (nth_size bounds))))))
        ∙ sym (map-append (row_of num) (term_rows units) _)
      where
        t : List Row
        t = map written_term units.terms.rows

        o : List Row
        o = map written_one units.terms.ones

        h : Row
        h = written_row (written_sizes 0 (map pos units.symbol_bits)) (pos target.header_bits -ℤ pos units.fixed_bits)

        l : List Row
        l = each_turn (length numbers.loops) (written_marked (is_marked uses) (nth_size numbers.loops) (nth_size bounds))

        k : List Row
        k = flat_map (written_keys numbers.keys (nth_size bounds)) keys

        loops : map (row_of num) (flat_map (loop_rows (nth_size bounds)) (looped_symbols units)) ≡ l
        loops =
            loops_written num (nth_size bounds) (nth_size numbers.loops) (is_looped units.list) (is_marked uses) (symbol_count units) (λ s. refl)
            (λ s l t. ap (λ n. n + t) (sym (are.loops s l)))
            (λ s l. marks_are units.list uses (length bounds) marks s (let d = within.found.dense in omega (arith, d, l)))
            (symbol_count units) (omega arith)
            ∙ ap (λ n. each_turn n (written_marked (is_marked uses) (nth_size numbers.loops) (nth_size bounds))) (sym are.dense)

        keys_all : map (row_of num) (flat_map (key_rows (nth_size bounds)) (step_keys units.terms (nth_size bounds))) ≡ k
        keys_all =
            ap (λ z. map (row_of num) (flat_map (key_rows (nth_size bounds)) z)) (sym seen)
            ∙ keys_written num (nth_size bounds) numbers.keys (λ s. refl) reached keys

    -- the objective
    pub goal_written : written_sizes 0 units.terms.by ++ flat_map (written_rise numbers.keys) keys ≡ parts_of num (objective units.terms (nth_size bounds))
    goal_written =
        sym (objective_written num numbers.keys (λ s. refl) reached units.terms.by keys)
        ∙ ap (λ z. parts_of num (size_parts 0 units.terms.by ++ map (λ (key : StepKey). part (rise_of key) (Reached key)) z)) seen

-- the groups of sizes, and those of instances behind them
pub groups_are : (units : PlainUnits) (target : Target) (bounds : ℕ → ℕ)
    → rows units target bounds ≡ size_groups units target bounds ++ rows_from_stand units target bounds
groups_are units target bounds =
    sym (
    append_assoc (term_rows units) (one_rows units ++ (header_row units target ∷ (loops ++ keys))) (rows_from_stand units target bounds)
    ∙ ap (λ z. term_rows units ++ z)
    (append_assoc (one_rows units) (header_row units target ∷ (loops ++ keys)) (rows_from_stand units target bounds)
    ∙ ap (λ z. one_rows units ++ (header_row units target ∷ z)) (append_assoc loops keys (rows_from_stand units target bounds)))
    )
  where
    loops : List NamedRow
    loops = flat_map (loop_rows bounds) (looped_symbols units)

    keys : List NamedRow
    keys = flat_map (key_rows bounds) (step_keys units.terms bounds)
