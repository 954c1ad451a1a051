-- The greatest values that are written are those of the variables in order.
use Rattle.std.proofs.Common.{◌≡◌, ℕ, ℤ, pos, ◌-◌, cond, List, [], ◌∷◌, ◌++◌, map, length, append_assoc, Option, Some, None, refl, sym, ap, ap₂, ◌∙◌, arith}
use Rattle.std.specs.Prelude.{flat_map}
use Rattle.std.specs.List.{AllByRecursion}
use Rattle.std.proofs.lemmas.List.{length-append, length-map, map-append}
use Rattle.elastic_ast.specs.declared.flat.Cells.{Cells}
use Rattle.elastic_ast.specs.declared.flat.Cells.TheVariants.{Fixed, Symbol}
use Rattle.elastic_ast.specs.Units.PlainUnits.{PlainUnit, PlainUnits}
use Rattle.elastic_ast.specs.Units.Instances.{nth_size}
use Rattle.target_desc.specs.declared.target.Target.{Target}
use Rattle.dep_graph.specs.Use.{cell_count}
use Rattle.unroll_bound.specs.Counts.{is_symbolic, numbers_below, looped_symbols}
use Rattle.unroll_bound.proofs.Totals.{each_any, each_append, each_mapped, sum_is_total}
use Rattle.ilp_model.specs.Candidates.{Candidate, candidates, symbolic}
use Rattle.ilp_model.specs.ListedCandidates.{listed}
use Rattle.ilp_model.specs.StepKeys.{step_keys}
use Rattle.ilp_model.specs.Variables.{Variable, symbol_count, variables, past_stages, top_of}
use Rattle.ilp_model.specs.Variables.Variable.{Size, Exists, Reached, Stands, Held}
use Rattle.ilp_model.specs.WrittenTops.{written_tops, written_held, held_of}
use Rattle.ilp_model.proofs.InstanceFacts.{HasUnit}
use Rattle.ilp_model.proofs.ListedUnits.{candidates_have_units}
use Rattle.ilp_model.proofs.Lists.{sizes_back}
use Rattle.ilp_model.proofs.Places.{existing, all_existing_length, length-numbers, length-flat_map_even}
use Rattle.ilp_model.proofs.Sums.{all_joined}

module _ (b : ℕ → ℕ) where
  abbrev pub top : Variable → ℤ
  top v = pos (top_of b v)

  -- several of the same
  same_tops : (n : ℕ) (vs : List Variable) → AllByRecursion (λ v. top_of b v ≡ n) vs → map top vs ≡ written_tops (length vs) n
  same_tops n [] h = refl
  same_tops n (v ∷ vs) h = ap₂ (λ m z. pos m ∷ z) h.0 (same_tops n vs h.1)

  stage_tops : (n m : ℕ) (name : ℕ → Variable) → ((t : ℕ) → top_of b (name t) ≡ n) → map top (map name (numbers_below m)) ≡ written_tops m n
  stage_tops n m name h =
      same_tops n (map name (numbers_below m)) (each_mapped name (λ v. top_of b v ≡ n) (numbers_below m) (each_any (λ t. top_of b (name t) ≡ n) h (numbers_below m)))
      ∙ ap (λ k. written_tops k n) (length-map (numbers_below m) name ∙ length-numbers m)

  -- the sizes
  size_tops : (ss : List ℕ) → map top (map Size ss) ≡ map pos (map b ss)
  size_tops [] = refl
  size_tops (s ∷ ss) = ap (λ z. pos (b s) ∷ z) (size_tops ss)

  -- the cells
  held_first : (m : ℕ) (p : Candidate) (ps : List Candidate) (behind : List ℤ)
      → map top (flat_map (λ p. map (Held p) (numbers_below m)) ps) ≡ behind
      → (c : Option Cells) → p.instance.unit.cells ≡ c
      → map top (flat_map (λ p. map (Held p) (numbers_below m)) (cond (is_symbolic c) (p ∷ ps) ps)) ≡ written_held m b c ++ behind
  held_first m p ps behind h None e = h
  held_first m p ps behind h (Some (Fixed n)) e = h
  held_first m p ps behind h (Some (Symbol s)) e =
      map-append top (map (Held p) (numbers_below m)) (flat_map (λ p. map (Held p) (numbers_below m)) ps)
      ∙ ap₂ (λ z w. z ++ w) (stage_tops (b s) m (Held p) (λ t. ap (cell_count b) e)) h

  held_tops : (units : List PlainUnit) (m : ℕ) (ps : List Candidate) → AllByRecursion (λ p. HasUnit units p.instance) ps
      → map top (flat_map (λ p. map (Held p) (numbers_below m)) (symbolic ps)) ≡ flat_map (held_of units m b) (map listed ps)
  held_tops units m [] h = refl
  held_tops units m (p ∷ ps) h =
      held_first m p (symbolic ps) (flat_map (held_of units m b) (map listed ps)) (held_tops units m ps h.1) p.instance.unit.cells refl
      ∙ ap (λ (u : PlainUnit). written_held m b u.cells ++ flat_map (held_of units m b) (map listed ps)) h.0.unit

pub tops_written : (units : PlainUnits) (target : Target) (bounds : List ℕ) → length bounds ≡ symbol_count units
    → (map pos bounds ++ written_tops (past_stages units target (nth_size bounds) - length bounds) 1) ++ flat_map (held_of units.list target.stages (nth_size bounds)) (map listed (candidates units (nth_size bounds)))
    ≡ map (top (nth_size bounds)) (variables units target (nth_size bounds))
tops_written units target bounds dense =
    append_assoc (map pos bounds) (written_tops (past_stages units target b - length bounds) 1) (flat_map (held_of units.list target.stages b) (map listed (candidates units b)))
    ∙ ap₂ (λ z w. z ++ w) (sym sizes_all) (ap₂ (λ z w. z ++ w) (sym ones_all) (sym held_all) ∙ sym (map-append (top b) ones held))
    ∙ sym (map-append (top b) sizes (ones ++ held))
    ∙ ap (λ z. map (top b) (sizes ++ z)) (append_assoc loops (keys ++ stands) held ∙ ap (λ z. loops ++ z) (append_assoc keys stands held))
  where
    b : ℕ → ℕ
    b = nth_size bounds

    sizes : List Variable
    sizes = map Size (numbers_below (symbol_count units))

    loops : List Variable
    loops = flat_map (existing units b) (looped_symbols units)

    keys : List Variable
    keys = map Reached (step_keys units.terms b)

    stands : List Variable
    stands = flat_map (λ one. map (Stands one) (numbers_below target.stages)) (candidates units b)

    held : List Variable
    held = flat_map (λ one. map (Held one) (numbers_below target.stages)) (symbolic (candidates units b))

    ones : List Variable
    ones = loops ++ (keys ++ stands)

    sizes_all : map (top b) sizes ≡ map pos bounds
    sizes_all =
        size_tops b (numbers_below (symbol_count units)) ∙ ap (map pos) (sizes_back b bounds (symbol_count units) dense (λ s l. refl))

    held_all : map (top b) held ≡ flat_map (held_of units.list target.stages b) (map listed (candidates units b))
    held_all = held_tops b units.list target.stages (candidates units b) (candidates_have_units units b)

    all_ones : AllByRecursion (λ v. top_of b v ≡ 1) ones
    all_ones =
        each_append (λ v. top_of b v ≡ 1) loops (keys ++ stands)
        (all_joined (existing units b) (λ v. top_of b v ≡ 1) (looped_symbols units)
        (each_any (λ s. AllByRecursion (λ v. top_of b v ≡ 1) (existing units b s)) (λ s. each_mapped (Exists s) (λ v. top_of b v ≡ 1) (numbers_below (b s)) (each_any (λ t. top_of b (Exists s t) ≡ 1) (λ t. refl) (numbers_below (b s)))) (looped_symbols units)))
        (each_append (λ v. top_of b v ≡ 1) keys stands
        (each_mapped Reached (λ v. top_of b v ≡ 1) (step_keys units.terms b) (each_any (λ j. top_of b (Reached j) ≡ 1) (λ j. refl) (step_keys units.terms b)))
        (all_joined (λ one. map (Stands one) (numbers_below target.stages)) (λ v. top_of b v ≡ 1) (candidates units b)
        (each_any (λ one. AllByRecursion (λ v. top_of b v ≡ 1) (map (Stands one) (numbers_below target.stages))) (λ one. each_mapped (Stands one) (λ v. top_of b v ≡ 1) (numbers_below target.stages) (each_any (λ t. top_of b (Stands one t) ≡ 1) (λ t. refl) (numbers_below target.stages))) (candidates units b))))

    long : length ones ≡ past_stages units target b - length bounds
    long =
        omega (
          arith,
          dense,
          length-append loops (keys ++ stands),
          length-append keys stands,
          all_existing_length units b (looped_symbols units),
          sum_is_total b (looped_symbols units),
          length-map (step_keys units.terms b) Reached,
          length-flat_map_even (λ p. map (Stands p) (numbers_below target.stages)) target.stages (λ p. length-map (numbers_below target.stages) (Stands p) ∙ length-numbers target.stages) (candidates units b),
        )

    ones_all : map (top b) ones ≡ written_tops (past_stages units target b - length bounds) 1
    ones_all = same_tops b 1 ones all_ones ∙ ap (λ n. written_tops n 1) long
