-- The rows name variables of the program alone.
use Rattle.std.proofs.Common.{◌≡◌, ℕ, ℤ, pos, neg_ℤ, ◌+◌, ◌-◌, ◌*◌, ◌<◌, ◌≤◌, Bool, true, false, cond, List, [], ◌∷◌, ◌++◌, map, length, Option, Some, None, refl, ap, ◌∙◌, subst, arith}
use Rattle.std.specs.Prelude.{nat_le, flat_map}
use Rattle.std.specs.List.{AllByRecursion}
use Rattle.std.proofs.lemmas.List.{length-map}
use Rattle.elastic_ast.specs.declared.flat.Cells.{Cells}
use Rattle.elastic_ast.specs.declared.flat.Cells.TheVariants.{Fixed, Symbol}
use Rattle.elastic_ast.specs.declared.flat.Steps.{Steps}
use Rattle.elastic_ast.specs.Meaning.Values.{bit}
use Rattle.elastic_ast.specs.Units.PlainUnits.{PlainUnits}
use Rattle.elastic_ast.specs.Units.Instances.{instances}
use Rattle.elastic_ast.specs.Units.Order.{Relation, order_of}
use Rattle.elastic_ast.specs.Units.Order.Relation.{Free, NotAfter, Before}
use Rattle.target_desc.specs.declared.target.Target.{Target}
use Rattle.dep_graph.specs.declared.resource.Resource.{Resource}
use Rattle.dep_graph.specs.declared.resource.Resource.TheVariants as resource
use Rattle.dep_graph.specs.PlacementRules.{EachLater}
use Rattle.dep_graph.specs.Use.{taken_by}
use Rattle.place_check.specs.FirstFault.{resources}
use Rattle.unit_flow.specs.SoundUnits.{IsStepTable, IsLoopSize, IsCellCount}
use Rattle.ilp_model.specs.Candidates.{Candidate, candidates, symbolic}
use Rattle.unroll_bound.specs.Counts.{is_symbolic, numbers_below, is_looped, looped_below, looped_symbols}
use Rattle.ilp_model.specs.StepKeys.{step_keys, keys_after, keys_of_pairs, keys_from}
use Rattle.ilp_model.specs.Variables.{Variable, symbol_count, variables, variable_number}
use Rattle.ilp_model.specs.Variables.Variable.{Size, Exists, Reached, Stands, Held}
use Rattle.ilp_model.specs.NamedRows.{NamedPart, NamedRow, part, row, plus, minus, once}
use Rattle.ilp_model.specs.Rows.{size_parts, exists_parts, falling_row, loop_rows, key_rows, stand_rows, only_row, whole_row, cell_rows, held_parts, use_row, use_rows, order_row, order_rows, rows_of_pair, rows}
use Rattle.ilp_model.specs.Objective.{rise_of, objective}
use Rattle.ilp_model.proofs.Totals.{total, sum_is_total}
use Rattle.ilp_model.proofs.Valuations.{Belongs, IsLoop}
use Rattle.ilp_model.proofs.Sums.{all_upto, later_more}
use Rattle.unroll_bound.proofs.Totals.{each_more, each_two, each_any, each_append, each_mapped}
use Rattle.ilp_model.proofs.Placing.{all_filter}
use Rattle.ilp_model.proofs.NineGroups.{rows_together}
use Rattle.ilp_model.proofs.Belonging.{instances_belong, instances_units, all_candidates}
use Rattle.ilp_model.proofs.Places.{IsAt, at_left, at_right, at_map, at_number, at_even, length-numbers, length-flat_map_even, HasPlace, HasRank, candidates_placed, candidates_ranked, KeyHasPlace, keys_placed, existing, all_existing_length, exists_at}

-- what is known of units, by recursion on their lists
pub record IsSound (units : PlainUnits) : Type 0 where
  pub rows : AllByRecursion (λ r. length r.by ≤ symbol_count units) units.terms.rows
  pub ones : AllByRecursion (λ s. s < symbol_count units) units.terms.ones
  pub goal : length units.terms.by ≤ symbol_count units
  pub steps : AllByRecursion (λ t. t.symbol < symbol_count units) units.terms.steps
  pub tables : AllByRecursion (λ t. IsStepTable t.pairs) units.terms.steps
  pub bits : length units.symbol_bits ≤ symbol_count units
  pub sizes : AllByRecursion (λ u. IsLoopSize (symbol_count units) u.size) units.list
  pub counts : AllByRecursion (λ u. IsCellCount (symbol_count units) units.terms.ones u.cells) units.list

pub later_any : {A : Type 0} (R : A → A → Type 0) → ((x y : A) → R x y) → (xs : List A) → EachLater R xs
later_any R f [] = tt
later_any R f (x ∷ xs) = (each_any (R x) (f x) xs, later_any R f xs)

abbrev pub IsSized : PlainUnits → Variable → Type 0
IsSized units (Size s) = s < symbol_count units
IsSized units (Exists s i) = Unit {0}
IsSized units (Reached j) = Unit {0}
IsSized units (Stands p t) = Unit {0}
IsSized units (Held p t) = Unit {0}

abbrev pub IsVar : PlainUnits → Target → (ℕ → ℕ) → Variable → Type 0
IsVar units target b v = IsAt (variables units target b) (variable_number units target b v) v × IsSized units v

abbrev pub KnowsParts : PlainUnits → Target → (ℕ → ℕ) → List NamedPart → Type 0
KnowsParts units target b ts = AllByRecursion (λ t. IsVar units target b t.variable) ts

abbrev pub Knows : PlainUnits → Target → (ℕ → ℕ) → NamedRow → Type 0
Knows units target b r = KnowsParts units target b r.parts

module _ (units : PlainUnits) (target : Target) (b : ℕ → ℕ) where
  -- the lengths of the groups
  sizes_length : length (map Size (numbers_below (symbol_count units))) ≡ symbol_count units
  sizes_length = length-map (numbers_below (symbol_count units)) Size ∙ length-numbers (symbol_count units)

  keys_length : length (map Reached (step_keys units.terms b)) ≡ length (step_keys units.terms b)
  keys_length = length-map (step_keys units.terms b) Reached

  stands_length : length (flat_map (λ p. map (Stands p) (numbers_below target.stages)) (candidates units b)) ≡ length (candidates units b) * target.stages
  stands_length = length-flat_map_even (λ p. map (Stands p) (numbers_below target.stages)) target.stages (λ p. length-map (numbers_below target.stages) (Stands p) ∙ length-numbers target.stages) (candidates units b)

  past_sizes : (k m : ℕ) (v : Variable) → m ≡ symbol_count units + k → IsAt ((flat_map (existing units b) (looped_symbols units)) ++ ((map Reached (step_keys units.terms b)) ++ ((flat_map (λ p. map (Stands p) (numbers_below target.stages)) (candidates units b)) ++ (flat_map (λ p. map (Held p) (numbers_below target.stages)) (symbolic (candidates units b)))))) k v → IsAt (variables units target b) m v
  past_sizes k m v e h = at_right (map Size (numbers_below (symbol_count units))) ((flat_map (existing units b) (looped_symbols units)) ++ ((map Reached (step_keys units.terms b)) ++ ((flat_map (λ p. map (Stands p) (numbers_below target.stages)) (candidates units b)) ++ (flat_map (λ p. map (Held p) (numbers_below target.stages)) (symbolic (candidates units b)))))) m k v (omega (arith, e, sizes_length)) h

  past_counters : (k m : ℕ) (v : Variable) → m ≡ total b (looped_symbols units) + k → IsAt ((map Reached (step_keys units.terms b)) ++ ((flat_map (λ p. map (Stands p) (numbers_below target.stages)) (candidates units b)) ++ (flat_map (λ p. map (Held p) (numbers_below target.stages)) (symbolic (candidates units b))))) k v → IsAt ((flat_map (existing units b) (looped_symbols units)) ++ ((map Reached (step_keys units.terms b)) ++ ((flat_map (λ p. map (Stands p) (numbers_below target.stages)) (candidates units b)) ++ (flat_map (λ p. map (Held p) (numbers_below target.stages)) (symbolic (candidates units b)))))) m v
  past_counters k m v e h = at_right (flat_map (existing units b) (looped_symbols units)) ((map Reached (step_keys units.terms b)) ++ ((flat_map (λ p. map (Stands p) (numbers_below target.stages)) (candidates units b)) ++ (flat_map (λ p. map (Held p) (numbers_below target.stages)) (symbolic (candidates units b))))) m k v (omega (arith, e, all_existing_length units b (looped_symbols units))) h

  past_step_keys : (k m : ℕ) (v : Variable) → m ≡ length (step_keys units.terms b) + k → IsAt ((flat_map (λ p. map (Stands p) (numbers_below target.stages)) (candidates units b)) ++ (flat_map (λ p. map (Held p) (numbers_below target.stages)) (symbolic (candidates units b)))) k v → IsAt ((map Reached (step_keys units.terms b)) ++ ((flat_map (λ p. map (Stands p) (numbers_below target.stages)) (candidates units b)) ++ (flat_map (λ p. map (Held p) (numbers_below target.stages)) (symbolic (candidates units b))))) m v
  past_step_keys k m v e h = at_right (map Reached (step_keys units.terms b)) ((flat_map (λ p. map (Stands p) (numbers_below target.stages)) (candidates units b)) ++ (flat_map (λ p. map (Held p) (numbers_below target.stages)) (symbolic (candidates units b)))) m k v (omega (arith, e, keys_length)) h

  past_stands : (k m : ℕ) (v : Variable) → m ≡ length (candidates units b) * target.stages + k → IsAt (flat_map (λ p. map (Held p) (numbers_below target.stages)) (symbolic (candidates units b))) k v → IsAt ((flat_map (λ p. map (Stands p) (numbers_below target.stages)) (candidates units b)) ++ (flat_map (λ p. map (Held p) (numbers_below target.stages)) (symbolic (candidates units b)))) m v
  past_stands k m v e h = at_right (flat_map (λ p. map (Stands p) (numbers_below target.stages)) (candidates units b)) (flat_map (λ p. map (Held p) (numbers_below target.stages)) (symbolic (candidates units b))) m k v (omega (arith, e, stands_length)) h

  pub size_var : (s : ℕ) → s < symbol_count units → IsVar units target b (Size s)
  size_var s h = (at_left (map Size (numbers_below (symbol_count units))) ((flat_map (existing units b) (looped_symbols units)) ++ ((map Reached (step_keys units.terms b)) ++ ((flat_map (λ p. map (Stands p) (numbers_below target.stages)) (candidates units b)) ++ (flat_map (λ p. map (Held p) (numbers_below target.stages)) (symbolic (candidates units b)))))) s (Size s) (at_map Size (numbers_below (symbol_count units)) s s (at_number (symbol_count units) s h)), h)

  pub exists_var : (s i : ℕ) → IsLoop units s → i < b s → IsVar units target b (Exists s i)
  exists_var s i l k = (past_sizes (total b (looped_below units.list s) + i) (variable_number units target b (Exists s i)) (Exists s i) (let e = sum_is_total b (looped_below units.list s) in omega (arith, e)) (at_left (flat_map (existing units b) (looped_symbols units)) ((map Reached (step_keys units.terms b)) ++ ((flat_map (λ p. map (Stands p) (numbers_below target.stages)) (candidates units b)) ++ (flat_map (λ p. map (Held p) (numbers_below target.stages)) (symbolic (candidates units b))))) (total b (looped_below units.list s) + i) (Exists s i) (exists_at units b (symbol_count units) s i l.0 l.1 k)), tt)

  pub reached_vars : AllByRecursion (λ j. IsVar units target b (Reached j)) (step_keys units.terms b)
  reached_vars = each_more (KeyHasPlace 0 (step_keys units.terms b)) (λ j. IsVar units target b (Reached j)) (λ j h. (past_sizes (total b (looped_symbols units) + j.place) (variable_number units target b (Reached j)) (Reached j) (let e = sum_is_total b (looped_symbols units) in omega (arith, e)) (past_counters j.place (total b (looped_symbols units) + j.place) (Reached j) refl (at_left (map Reached (step_keys units.terms b)) ((flat_map (λ p. map (Stands p) (numbers_below target.stages)) (candidates units b)) ++ (flat_map (λ p. map (Held p) (numbers_below target.stages)) (symbolic (candidates units b)))) j.place (Reached j) (at_map Reached (step_keys units.terms b) j.place j (subst (λ k. IsAt (step_keys units.terms b) k j) (omega (arith, h.1)) h.2)))), tt)) (step_keys units.terms b) (keys_placed b 0 units.terms.steps)

  pub stands_vars : AllByRecursion (λ p. (t : ℕ) → t < target.stages → IsVar units target b (Stands p t)) (candidates units b)
  stands_vars = each_more (HasPlace 0 (candidates units b)) (λ p. (t : ℕ) → t < target.stages → IsVar units target b (Stands p t)) (λ p h t k. (
    past_sizes (total b (looped_symbols units) + (length (step_keys units.terms b) + (p.place * target.stages + t))) (variable_number units target b (Stands p t)) (Stands p t) (let e = sum_is_total b (looped_symbols units) in omega (arith, e)) (past_counters _ (total b (looped_symbols units) + (length (step_keys units.terms b) + (p.place * target.stages + t))) (Stands p t) refl (past_step_keys _ (length (step_keys units.terms b) + (p.place * target.stages + t)) (Stands p t) refl
        (at_left (flat_map (λ p. map (Stands p) (numbers_below target.stages)) (candidates units b)) (flat_map (λ p. map (Held p) (numbers_below target.stages)) (symbolic (candidates units b))) (p.place * target.stages + t) (Stands p t) (at_even (λ p. map (Stands p) (numbers_below target.stages)) target.stages (λ p. length-map (numbers_below target.stages) (Stands p) ∙ length-numbers target.stages) (candidates units b) p.place t p (Stands p t) (subst (λ k. IsAt (candidates units b) k p) (omega (arith, h.1)) h.2) (at_map (Stands p) (numbers_below target.stages) t t (at_number target.stages t k)))))),
    tt,
  )) (candidates units b) (candidates_placed 0 0 (instances units.list b))

  pub held_vars : AllByRecursion (λ p. is_symbolic p.instance.unit.cells ≡ true → (t : ℕ) → t < target.stages → IsVar units target b (Held p t)) (candidates units b)
  held_vars = each_more (HasRank 0 (candidates units b)) (λ p. is_symbolic p.instance.unit.cells ≡ true → (t : ℕ) → t < target.stages → IsVar units target b (Held p t)) (λ p r q t k.
      (let h = r q in (
        past_sizes (total b (looped_symbols units) + (length (step_keys units.terms b) + (length (candidates units b) * target.stages + (p.rank * target.stages + t)))) (variable_number units target b (Held p t)) (Held p t) (let e = sum_is_total b (looped_symbols units) in omega (arith, e)) (past_counters _ (total b (looped_symbols units) + (length (step_keys units.terms b) + (length (candidates units b) * target.stages + (p.rank * target.stages + t)))) (Held p t) refl (past_step_keys _ (length (step_keys units.terms b) + (length (candidates units b) * target.stages + (p.rank * target.stages + t))) (Held p t) refl (past_stands _ (length (candidates units b) * target.stages + (p.rank * target.stages + t)) (Held p t) refl
            (at_even (λ p. map (Held p) (numbers_below target.stages)) target.stages (λ p. length-map (numbers_below target.stages) (Held p) ∙ length-numbers target.stages) (symbolic (candidates units b)) p.rank t p (Held p t) (subst (λ k. IsAt (symbolic (candidates units b)) k p) (omega (arith, h.1)) h.2) (at_map (Held p) (numbers_below target.stages) t t (at_number target.stages t k)))))),
        tt,
      ))) (candidates units b) (candidates_ranked 0 0 (instances units.list b))

  -- each group of rows
  sizes_known : (by : List ℤ) (s : ℕ) → s + length by ≤ symbol_count units → KnowsParts units target b (size_parts s by)
  sizes_known [] s h = tt
  sizes_known (a ∷ by) s h = (size_var s (omega (arith, h)), sizes_known by (s + 1) (omega (arith, h)))

  plus_known : {A : Type 0} (f : A → ℕ) (g : A → Variable) (xs : List A) → AllByRecursion (λ x. IsVar units target b (g x)) xs → KnowsParts units target b (plus f g xs)
  plus_known f g xs h = each_mapped (λ x. part (pos (f x)) (g x)) (λ t. IsVar units target b t.variable) xs h

  minus_known : {A : Type 0} (f : A → ℕ) (g : A → Variable) (xs : List A) → AllByRecursion (λ x. IsVar units target b (g x)) xs → KnowsParts units target b (minus f g xs)
  minus_known f g xs h = each_mapped (λ x. part (neg_ℤ (pos (f x))) (g x)) (λ t. IsVar units target b t.variable) xs h

  exists_known : (a : ℤ) (s : Option ℕ) (i : ℕ) → Belongs units b s i → KnowsParts units target b (exists_parts a s i)
  exists_known a None i h = tt
  exists_known a (Some s) i h = (exists_var s i h.1 h.0, tt)

  counts_known : (s : ℕ) → IsLoop units s → AllByRecursion (Knows units target b) (loop_rows b s)
  counts_known s l =
      let all = all_upto (λ i. IsVar units target b (Exists s i)) (b s) (λ i k. exists_var s i l k) in (
        (size_var s l.0, minus_known once (Exists s) (numbers_below (b s)) all),
        (
          (size_var s l.0, plus_known once (Exists s) (numbers_below (b s)) all),
          each_mapped (falling_row s) (Knows units target b) (numbers_below (b s - 1)) (all_upto (λ i. Knows units target b (falling_row s i)) (b s - 1) (λ i k. (exists_var s i l (omega arith), (exists_var s (i + 1) l (omega arith), tt)))),
        ),
      )

  -- the variables of one instance
  record KnowsCandidate (p : Candidate) : Type 0 where
    pub belongs : Belongs units b p.instance.unit.size p.instance.index
    pub here : (t : ℕ) → t < target.stages → IsVar units target b (Stands p t)
    pub held : is_symbolic p.instance.unit.cells ≡ true → (t : ℕ) → t < target.stages → IsVar units target b (Held p t)
    pub cells : IsCellCount (symbol_count units) units.terms.ones p.instance.unit.cells

  stands : (f : ℕ → ℕ) (p : Candidate) → KnowsCandidate p → KnowsParts units target b (plus f (Stands p) (numbers_below target.stages))
  stands f p k = plus_known f (Stands p) (numbers_below target.stages) (all_upto (λ t. IsVar units target b (Stands p t)) target.stages k.here)

  places_known : (p : Candidate) → KnowsCandidate p → AllByRecursion (Knows units target b) (stand_rows target.stages p)
  places_known p k = (
    each_append (λ t. IsVar units target b t.variable) (exists_parts (neg_ℤ (pos 1)) p.instance.unit.size p.instance.index) (plus once (Stands p) (numbers_below target.stages)) (exists_known (neg_ℤ (pos 1)) p.instance.unit.size p.instance.index k.belongs) (stands once p k),
    (each_append (λ t. IsVar units target b t.variable) (exists_parts (pos 1) p.instance.unit.size p.instance.index) (minus once (Stands p) (numbers_below target.stages)) (exists_known (pos 1) p.instance.unit.size p.instance.index k.belongs) (minus_known once (Stands p) (numbers_below target.stages) (all_upto (λ t. IsVar units target b (Stands p t)) target.stages k.here)), tt),
  )

  cells_known : (p : Candidate) (c : Option Cells) → p.instance.unit.cells ≡ c → KnowsCandidate p → AllByRecursion (Knows units target b) (cell_rows target.stages b p c)
  cells_known p None e k = tt
  cells_known p (Some (Fixed n)) e k = tt
  cells_known p (Some (Symbol s)) e k =
      let held = k.held (ap is_symbolic e) in
      let small : s < symbol_count units = (subst (IsCellCount (symbol_count units) units.terms.ones) e k.cells).0 in
      each_append (Knows units target b) (map (only_row (b s) p) (numbers_below target.stages)) (whole_row target.stages (b s) p s ∷ [])
      (each_mapped (only_row (b s) p) (Knows units target b) (numbers_below target.stages) (all_upto (λ t. Knows units target b (only_row (b s) p t)) target.stages (λ t l. (k.here t l, (held t l, tt)))))
      ((size_var s small, each_append (λ t. IsVar units target b t.variable) (exists_parts (pos (b s)) p.instance.unit.size p.instance.index) (minus once (Held p) (numbers_below target.stages)) (exists_known (pos (b s)) p.instance.unit.size p.instance.index k.belongs) (minus_known once (Held p) (numbers_below target.stages) (all_upto (λ t. IsVar units target b (Held p t)) target.stages held))), tt)

  held_known : (kind : Resource) (ps : List Candidate) (t : ℕ) → AllByRecursion (λ p. IsVar units target b (Held p t)) (symbolic ps) → KnowsParts units target b (held_parts kind t ps)
  held_known resource.Memory ps t h = plus_known (λ p. p.instance.unit.cell_width) (λ p. Held p t) (symbolic ps) h
  held_known resource.Stateful ps t h = tt
  held_known resource.Stateless ps t h = tt
  held_known resource.TableBits ps t h = tt
  held_known resource.TernaryBits ps t h = tt

  uses_known : (ps : List Candidate) → AllByRecursion KnowsCandidate ps → (t : ℕ) → t < target.stages → AllByRecursion (Knows units target b) (use_rows target ps t)
  uses_known ps k t l =
      let all_stand : AllByRecursion (λ p. IsVar units target b (Stands p t)) ps = each_more KnowsCandidate (λ p. IsVar units target b (Stands p t)) (λ p q. q.here t l) ps k in
      let all_held : AllByRecursion (λ p. IsVar units target b (Held p t)) (symbolic ps) = all_filter (λ p. IsVar units target b (Held p t)) (λ p. is_symbolic p.instance.unit.cells) ps (each_more KnowsCandidate (λ p. is_symbolic p.instance.unit.cells ≡ true → IsVar units target b (Held p t)) (λ p q e. q.held e t l) ps k) in
      each_mapped (use_row target ps t) (Knows units target b) resources (each_any (λ kind. Knows units target b (use_row target ps t kind)) (λ kind. each_append (λ t. IsVar units target b t.variable) (plus (λ p. taken_by kind (λ symbol. 0) p.instance.unit) (λ p. Stands p t) ps) (held_parts kind t ps) (plus_known (λ p. taken_by kind (λ symbol. 0) p.instance.unit) (λ p. Stands p t) ps all_stand) (held_known kind ps t all_held)) resources)

  order_known : (p q : Candidate) (low t : ℕ) → KnowsCandidate p → KnowsCandidate q → Knows units target b (order_row target.stages p q low t)
  order_known p q low t kp kq = each_append (λ t. IsVar units target b t.variable) (plus (λ r. bit (nat_le low r)) (Stands p) (numbers_below target.stages)) (plus (λ r. bit (nat_le r t)) (Stands q) (numbers_below target.stages)) (stands (λ r. bit (nat_le low r)) p kp) (stands (λ r. bit (nat_le r t)) q kq)

  orders_known : (p q : Candidate) (r : Relation) → KnowsCandidate p → KnowsCandidate q → AllByRecursion (Knows units target b) (order_rows target.stages p q r)
  orders_known p q Free kp kq = tt
  orders_known p q NotAfter kp kq = each_mapped (λ t. order_row target.stages p q (t + 1) t) (Knows units target b) (numbers_below (target.stages - 1)) (each_any (λ t. Knows units target b (order_row target.stages p q (t + 1) t)) (λ t. order_known p q (t + 1) t kp kq) (numbers_below (target.stages - 1)))
  orders_known p q Before kp kq = each_mapped (λ t. order_row target.stages p q t t) (Knows units target b) (numbers_below target.stages) (each_any (λ t. Knows units target b (order_row target.stages p q t t)) (λ t. order_known p q t t kp kq) (numbers_below target.stages))

  -- a key's symbol is one
  after_symbols : (m : Bool) (s j v : ℕ) (ps : List (ℕ × ℕ)) → s < symbol_count units → AllByRecursion (λ k. k.symbol < symbol_count units) (keys_after b m s j v ps)
  after_symbols m s j v [] h = tt
  after_symbols m s j v (p ∷ ps) h = go (nat_le p.0 (b s)) (λ i. after_symbols m s i p.1 ps h)
    where
      go : (t : Bool) → ((i : ℕ) → AllByRecursion (λ k. k.symbol < symbol_count units) (keys_after b m s i p.1 ps)) → AllByRecursion (λ k. k.symbol < symbol_count units) (cond t (record { place = j; minus = m; symbol = s; key = p.0; value = p.1; before = v } ∷ keys_after b m s (j + 1) p.1 ps) (keys_after b m s j p.1 ps))
      go true ih = (h, ih (j + 1))
      go false ih = ih j

  pub keys_symbols : (j : ℕ) (ts : List Steps) → AllByRecursion (λ t. t.symbol < symbol_count units) ts → AllByRecursion (λ k. k.symbol < symbol_count units) (keys_from b j ts)
  keys_symbols j [] h = tt
  keys_symbols j (t ∷ ts) h = each_append (λ k. k.symbol < symbol_count units) (keys_of_pairs b t.minus t.symbol j t.pairs) (keys_from b (j + length (keys_of_pairs b t.minus t.symbol j t.pairs)) ts) (of_pairs t.pairs) (keys_symbols (j + length (keys_of_pairs b t.minus t.symbol j t.pairs)) ts h.1)
    where
      of_pairs : (ps : List (ℕ × ℕ)) → AllByRecursion (λ k. k.symbol < symbol_count units) (keys_of_pairs b t.minus t.symbol j ps)
      of_pairs [] = tt
      of_pairs (p ∷ ps) = after_symbols t.minus t.symbol j p.1 ps h.0

  module _ (sound : IsSound units) where
    pub candidates_belong : AllByRecursion (λ p. Belongs units b p.instance.unit.size p.instance.index) (candidates units b)
    candidates_belong = all_candidates (λ p. Belongs units b p.unit.size p.index) 0 0 (instances units.list b) (instances_belong units b sound.sizes)

    candidates_known : AllByRecursion KnowsCandidate (candidates units b)
    candidates_known =
        each_two (λ p. Belongs units b p.instance.unit.size p.instance.index) (λ p. ((t : ℕ) → t < target.stages → IsVar units target b (Stands p t)) × (is_symbolic p.instance.unit.cells ≡ true → (t : ℕ) → t < target.stages → IsVar units target b (Held p t)) × IsCellCount (symbol_count units) units.terms.ones p.instance.unit.cells) KnowsCandidate (λ p x y. record { belongs = x; here = y.0; held = y.1; cells = y.2 }) (candidates units b) candidates_belong
        (each_two (λ p. (t : ℕ) → t < target.stages → IsVar units target b (Stands p t)) (λ p. (is_symbolic p.instance.unit.cells ≡ true → (t : ℕ) → t < target.stages → IsVar units target b (Held p t)) × IsCellCount (symbol_count units) units.terms.ones p.instance.unit.cells) (λ p. ((t : ℕ) → t < target.stages → IsVar units target b (Stands p t)) × (is_symbolic p.instance.unit.cells ≡ true → (t : ℕ) → t < target.stages → IsVar units target b (Held p t)) × IsCellCount (symbol_count units) units.terms.ones p.instance.unit.cells) (λ p x y. (x, y.0, y.1)) (candidates units b) stands_vars
        (each_two (λ p. is_symbolic p.instance.unit.cells ≡ true → (t : ℕ) → t < target.stages → IsVar units target b (Held p t)) (λ p. IsCellCount (symbol_count units) units.terms.ones p.instance.unit.cells) (λ p. (is_symbolic p.instance.unit.cells ≡ true → (t : ℕ) → t < target.stages → IsVar units target b (Held p t)) × IsCellCount (symbol_count units) units.terms.ones p.instance.unit.cells) (λ p x y. (x, y)) (candidates units b) held_vars (all_candidates (λ p. IsCellCount (symbol_count units) units.terms.ones p.unit.cells) 0 0 (instances units.list b) (instances_units (λ u. IsCellCount (symbol_count units) units.terms.ones u.cells) units b sound.counts))))

    pub rows_known : AllByRecursion (Knows units target b) (rows units target b)
    rows_known = rows_together units target b (Knows units target b) (record {
      assumes = each_mapped (λ r. row (size_parts 0 r.by) r.most) (Knows units target b) units.terms.rows (each_more (λ r. length r.by ≤ symbol_count units) (λ r. Knows units target b (row (size_parts 0 r.by) r.most)) (λ r k. sizes_known r.by 0 (omega (arith, k))) units.terms.rows sound.rows);
      ones = each_mapped (λ s. row (part (neg_ℤ (pos 1)) (Size s) ∷ []) (neg_ℤ (pos 1))) (Knows units target b) units.terms.ones (each_more (λ s. s < symbol_count units) (λ s. Knows units target b (row (part (neg_ℤ (pos 1)) (Size s) ∷ []) (neg_ℤ (pos 1)))) (λ s k. (size_var s k, tt)) units.terms.ones sound.ones);
      header = sizes_known (map pos units.symbol_bits) 0 (omega (arith, length-map units.symbol_bits pos, sound.bits));
      counts = all_filter (λ s. AllByRecursion (Knows units target b) (loop_rows b s)) (is_looped units.list) (numbers_below (symbol_count units)) (all_upto (λ s. is_looped units.list s ≡ true → AllByRecursion (Knows units target b) (loop_rows b s)) (symbol_count units) (λ s k e. counts_known s (k, e)));
      keys = each_two (λ j. IsVar units target b (Reached j)) (λ j. j.symbol < symbol_count units) (λ j. AllByRecursion (Knows units target b) (key_rows b j)) (λ j x y. ((size_var j.symbol y, (x, tt)), ((size_var j.symbol y, (x, tt)), tt))) (step_keys units.terms b) reached_vars (keys_symbols 0 units.terms.steps sound.steps);
      places = each_more KnowsCandidate (λ p. AllByRecursion (Knows units target b) (stand_rows target.stages p)) places_known (candidates units b) candidates_known;
      cells = each_more KnowsCandidate (λ p. AllByRecursion (Knows units target b) (cell_rows target.stages b p p.instance.unit.cells)) (λ p k. cells_known p p.instance.unit.cells refl k) (candidates units b) candidates_known;
      stages = all_upto (λ t. AllByRecursion (Knows units target b) (use_rows target (candidates units b) t)) target.stages (λ t l. uses_known (candidates units b) candidates_known t l);
      orders = later_more KnowsCandidate (λ p q. Unit {0}) (λ p q. AllByRecursion (Knows units target b) (rows_of_pair target.stages (p, q))) (λ p q kp kq u. orders_known p q (order_of p.instance q.instance) kp kq) (candidates units b) candidates_known (later_any (λ p q. Unit {0}) (λ p q. tt) (candidates units b));
    })

    pub objective_known : KnowsParts units target b (objective units.terms b)
    objective_known = each_append (λ t. IsVar units target b t.variable) (size_parts 0 units.terms.by) (map (λ j. part (rise_of j) (Reached j)) (step_keys units.terms b)) (sizes_known units.terms.by 0 (omega (arith, sound.goal))) (each_mapped (λ j. part (rise_of j) (Reached j)) (λ t. IsVar units target b t.variable) (step_keys units.terms b) reached_vars)
