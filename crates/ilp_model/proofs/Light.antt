-- Each part of each row is small where the numbers of the units are.
use Rattle.std.proofs.Common.{◌≡◌, ℕ, ℤ, zero, suc, pos, neg_ℤ, ◌+◌, ◌-◌, ◌*◌, ◌≤◌, ◌-ℤ◌, max, unsigned_abs, Bool, true, false, List, [], ◌∷◌, map, Option, Some, None, refl, ap, subst, arith}
use Rattle.std.specs.Prelude.{nat_le}
use Rattle.std.specs.List.{AllByRecursion}
use Rattle.std.proofs.lemmas.Int.{ints}
use Rattle.std.proofs.Math.Nat.{mul-le-mul_left}
use Rattle.elastic_ast.specs.declared.flat.Cells.{Cells}
use Rattle.elastic_ast.specs.declared.flat.Cells.TheVariants.{Fixed, Symbol}
use Rattle.elastic_ast.specs.Meaning.Values.{bit}
use Rattle.elastic_ast.specs.Units.PlainUnits.{PlainUnits}
use Rattle.elastic_ast.specs.Units.Instances.{instances}
use Rattle.elastic_ast.specs.Units.Order.{Relation, order_of}
use Rattle.elastic_ast.specs.Units.Order.Relation.{Free, NotAfter, Before}
use Rattle.target_desc.specs.declared.target.Target.{Target}
use Rattle.dep_graph.specs.declared.resource.Resource.{Resource}
use Rattle.dep_graph.specs.declared.resource.Resource.TheVariants as resource
use Rattle.dep_graph.specs.Use.{cell_count, taken_by, limit_of}
use Rattle.place_check.specs.FirstFault.{resources}
use Rattle.ilp_model.specs.Candidates.{Candidate, candidates, symbolic}
use Rattle.unroll_bound.specs.Counts.{is_symbolic, numbers_below, looped_symbols}
use Rattle.ilp_model.specs.StepKeys.{StepKey, step_keys}
use Rattle.ilp_model.specs.Variables.{Variable, top_of}
use Rattle.ilp_model.specs.Variables.Variable.{Size, Exists, Reached, Stands, Held}
use Rattle.ilp_model.specs.NamedRows.{NamedPart, NamedRow, part, row, plus, minus, once}
use Rattle.ilp_model.specs.Rows.{size_parts, exists_parts, exists_constant, falling_row, loop_rows, key_rows, stand_rows, only_row, whole_row, cell_rows, held_parts, use_row, use_rows, order_row, order_rows, rows_of_pair, rows}
use Rattle.ilp_model.specs.Objective.{rise_of, objective}
use Rattle.ilp_model.proofs.Valuations.{IsKey}
use Rattle.unroll_bound.proofs.Totals.{each_more, each_any, each_append, each_mapped}
use Rattle.ilp_model.proofs.Placing.{all_filter}
use Rattle.ilp_model.proofs.NineGroups.{rows_together}
use Rattle.ilp_model.proofs.Belonging.{instances_units, all_candidates}
use Rattle.ilp_model.proofs.ObjectiveLaws.{keys_are}
use Rattle.ilp_model.proofs.Known.{IsSound, later_any}

abs_neg : (n : ℕ) → unsigned_abs (neg_ℤ (pos n)) ≡ n
abs_neg zero = refl
abs_neg (suc n) = refl

pub abs_minus : (m n : ℕ) → unsigned_abs (pos m -ℤ pos n) ≤ max m n
abs_minus m n = omega (arith, ints)

bit_le : (v : Bool) → bit v ≤ 1
bit_le true = omega arith
bit_le false = omega arith

-- a part's coefficient times the greater of its variable's top and 1 is at most a number
abbrev pub IsLight : (ℕ → ℕ) → ℕ → NamedPart → Type 0
IsLight b d t = unsigned_abs t.by * max (top_of b t.variable) 1 ≤ d

abbrev pub AreLight : (ℕ → ℕ) → ℕ → List NamedPart → Type 0
AreLight b d ts = AllByRecursion (IsLight b d) ts

abbrev pub IsLightRow : (ℕ → ℕ) → ℕ → NamedRow → Type 0
IsLightRow b d r = AreLight b d r.parts × (unsigned_abs r.most ≤ d)

-- what rows take from the units and the target is small
pub record AreNumbersLight (units : PlainUnits) (target : Target) (b : ℕ → ℕ) (d : ℕ) : Type 0 where
  pub bounds : (s : ℕ) → b s + 1 ≤ d
  pub rows : AllByRecursion (λ r. AreLight b d (size_parts 0 r.by) × (unsigned_abs r.most ≤ d)) units.terms.rows
  pub goal : AreLight b d (size_parts 0 units.terms.by)
  pub header : AreLight b d (size_parts 0 (map pos units.symbol_bits))
  pub header_most : unsigned_abs (pos target.header_bits -ℤ pos units.fixed_bits) ≤ d
  pub steps : AllByRecursion (λ j. unsigned_abs (rise_of j) ≤ d) (step_keys units.terms b)
  pub taken : AllByRecursion (λ u. (kind : Resource) → taken_by kind (λ symbol. 0) u ≤ d) units.list
  pub held : AllByRecursion (λ u. u.cell_width * max (cell_count b u.cells) 1 ≤ d) units.list
  pub limits : (kind : Resource) → limit_of kind target ≤ d

module _ (b : ℕ → ℕ) (d : ℕ) where
  plus_light : {A : Type 0} (f : A → ℕ) (g : A → Variable) (xs : List A) → AllByRecursion (λ x. f x * max (top_of b (g x)) 1 ≤ d) xs → AreLight b d (plus f g xs)
  plus_light f g xs h = each_mapped (λ x. part (pos (f x)) (g x)) (IsLight b d) xs h

  minus_light : {A : Type 0} (f : A → ℕ) (g : A → Variable) (xs : List A) → AllByRecursion (λ x. f x * max (top_of b (g x)) 1 ≤ d) xs → AreLight b d (minus f g xs)
  minus_light f g xs h = each_mapped (λ x. part (neg_ℤ (pos (f x))) (g x)) (IsLight b d) xs (each_more (λ x. f x * max (top_of b (g x)) 1 ≤ d) (λ x. unsigned_abs (neg_ℤ (pos (f x))) * max (top_of b (g x)) 1 ≤ d) (λ x k. subst (λ v. v * max (top_of b (g x)) 1 ≤ d) (let e = abs_neg (f x) in omega (arith, e)) k) xs h)

  exists_light : (a : ℤ) (s : Option ℕ) (i : ℕ) → unsigned_abs a ≤ d → AreLight b d (exists_parts a s i)
  exists_light a None i h = tt
  exists_light a (Some s) i h = (omega (arith, h), tt)

  constant_le : (s : Option ℕ) → exists_constant s ≤ 1
  constant_le None = omega arith
  constant_le (Some s) = omega arith

  module _ (units : PlainUnits) (target : Target) (sound : IsSound units) (light : AreNumbersLight units target b d) where
    one_le : 1 ≤ d
    one_le = let h = light.bounds 0 in omega (arith, h)

    size_light : (a : ℤ) (s : ℕ) → unsigned_abs a ≡ 1 → unsigned_abs a * max (b s) 1 ≤ d
    size_light a s e = rw e (omega (arith, light.bounds s))

    loops_light : (s : ℕ) → AllByRecursion (IsLightRow b d) (loop_rows b s)
    loops_light s = (
      ((size_light (pos 1) s refl, minus_light once (Exists s) (numbers_below (b s)) (each_any (λ x. 1 * max 1 1 ≤ d) (λ x. one_le) (numbers_below (b s)))), omega arith),
      (
        ((size_light (neg_ℤ (pos 1)) s refl, plus_light once (Exists s) (numbers_below (b s)) (each_any (λ x. 1 * max 1 1 ≤ d) (λ x. one_le) (numbers_below (b s)))), omega arith),
        each_mapped (falling_row s) (IsLightRow b d) (numbers_below (b s - 1)) (each_any (λ i. IsLightRow b d (falling_row s i)) (λ i. ((one_le, (one_le, tt)), omega arith)) (numbers_below (b s - 1))),
      ),
    )

    keys_light : (j : StepKey) → IsKey b j → AllByRecursion (IsLightRow b d) (key_rows b j)
    keys_light j k = (
      ((size_light (neg_ℤ (pos 1)) j.symbol refl, (omega (arith, light.bounds j.symbol, k.1), tt)), omega arith),
      (((size_light (pos 1) j.symbol refl, (omega (arith, abs_neg (b j.symbol - j.key + 1), light.bounds j.symbol, k.0, k.1), tt)), less j.key 1 (omega (arith, light.bounds j.symbol, k.1)) one_le), tt),
    )
      where
        less : (m n : ℕ) → m ≤ d → n ≤ d → unsigned_abs (pos m -ℤ pos n) ≤ d
        less m n h k = omega (arith, abs_minus m n, h, k)

    stands_light : (p : Candidate) → AllByRecursion (IsLightRow b d) (stand_rows target.stages p)
    stands_light p = (
      (each_append (IsLight b d) (exists_parts (neg_ℤ (pos 1)) p.instance.unit.size p.instance.index) (plus once (Stands p) (numbers_below target.stages)) (exists_light (neg_ℤ (pos 1)) p.instance.unit.size p.instance.index one_le) (plus_light once (Stands p) (numbers_below target.stages) (each_any (λ x. 1 * max 1 1 ≤ d) (λ x. one_le) (numbers_below target.stages))), omega (arith, constant_le p.instance.unit.size, one_le)),
      ((each_append (IsLight b d) (exists_parts (pos 1) p.instance.unit.size p.instance.index) (minus once (Stands p) (numbers_below target.stages)) (exists_light (pos 1) p.instance.unit.size p.instance.index one_le) (minus_light once (Stands p) (numbers_below target.stages) (each_any (λ x. 1 * max 1 1 ≤ d) (λ x. one_le) (numbers_below target.stages))), omega (arith, abs_neg (exists_constant p.instance.unit.size), constant_le p.instance.unit.size, one_le)), tt),
    )

    cells_light : (p : Candidate) (k : Option Cells) → p.instance.unit.cells ≡ k → AllByRecursion (IsLightRow b d) (cell_rows target.stages b p k)
    cells_light p None e = tt
    cells_light p (Some (Fixed k)) e = tt
    cells_light p (Some (Symbol s)) e =
        each_append (IsLightRow b d) (map (only_row (b s) p) (numbers_below target.stages)) (whole_row target.stages (b s) p s ∷ [])
        (each_mapped (only_row (b s) p) (IsLightRow b d) (numbers_below target.stages) (each_any (λ t. IsLightRow b d (only_row (b s) p t)) (λ t. ((omega (arith, abs_neg (b s), light.bounds s), (held_one, tt)), omega arith)) (numbers_below target.stages)))
        (((size_light (pos 1) s refl, each_append (IsLight b d) (exists_parts (pos (b s)) p.instance.unit.size p.instance.index) (minus once (Held p) (numbers_below target.stages)) (exists_light (pos (b s)) p.instance.unit.size p.instance.index (omega (arith, light.bounds s))) (minus_light once (Held p) (numbers_below target.stages) (each_any (λ x. 1 * max (cell_count b p.instance.unit.cells) 1 ≤ d) (λ x. held_one) (numbers_below target.stages)))), omega (arith, abs_minus (b s) (b s * exists_constant p.instance.unit.size), light.bounds s, mul-le-mul_left (b s) (constant_le p.instance.unit.size))), tt)
      where
        held_one : 1 * max (cell_count b p.instance.unit.cells) 1 ≤ d
        held_one = let f = ap (cell_count b) e in omega (arith, f, light.bounds s)

    taken_light : (ps : List Candidate) → AllByRecursion (λ p. (kind : Resource) → taken_by kind (λ symbol. 0) p.instance.unit ≤ d) ps → AllByRecursion (λ p. p.instance.unit.cell_width * max (cell_count b p.instance.unit.cells) 1 ≤ d) ps → (t : ℕ) (kind : Resource) → IsLightRow b d (use_row target ps t kind)
    taken_light ps h k t kind = (
      each_append (IsLight b d) (plus (λ p. taken_by kind (λ symbol. 0) p.instance.unit) (λ p. Stands p t) ps) (held_parts kind t ps)
          (plus_light (λ p. taken_by kind (λ symbol. 0) p.instance.unit) (λ p. Stands p t) ps (each_more (λ p. (kind : Resource) → taken_by kind (λ symbol. 0) p.instance.unit ≤ d) (λ p. taken_by kind (λ symbol. 0) p.instance.unit * max 1 1 ≤ d) (λ p q. (let le = q kind in omega (arith, le))) ps h))
          (held_light kind),
      light.limits kind,
    )
      where
        held_light : (kind : Resource) → AreLight b d (held_parts kind t ps)
        held_light resource.Memory = plus_light (λ p. p.instance.unit.cell_width) (λ p. Held p t) (symbolic ps) (all_filter (λ p. p.instance.unit.cell_width * max (cell_count b p.instance.unit.cells) 1 ≤ d) (λ p. is_symbolic p.instance.unit.cells) ps (each_more (λ p. p.instance.unit.cell_width * max (cell_count b p.instance.unit.cells) 1 ≤ d) (λ p. is_symbolic p.instance.unit.cells ≡ true → p.instance.unit.cell_width * max (cell_count b p.instance.unit.cells) 1 ≤ d) (λ p q e. q) ps k))
        held_light resource.Stateful = tt
        held_light resource.Stateless = tt
        held_light resource.TableBits = tt
        held_light resource.TernaryBits = tt

    order_light : (p q : Candidate) (low t : ℕ) → IsLightRow b d (order_row target.stages p q low t)
    order_light p q low t =
        (each_append (IsLight b d) (plus (λ r. bit (nat_le low r)) (Stands p) (numbers_below target.stages)) (plus (λ r. bit (nat_le r t)) (Stands q) (numbers_below target.stages)) (plus_light (λ r. bit (nat_le low r)) (Stands p) (numbers_below target.stages) (each_any (λ r. bit (nat_le low r) * max 1 1 ≤ d) (λ r. omega (arith, bit_le (nat_le low r), one_le)) (numbers_below target.stages))) (plus_light (λ r. bit (nat_le r t)) (Stands q) (numbers_below target.stages) (each_any (λ r. bit (nat_le r t) * max 1 1 ≤ d) (λ r. omega (arith, bit_le (nat_le r t), one_le)) (numbers_below target.stages))), one_le)

    orders_light : (p q : Candidate) (r : Relation) → AllByRecursion (IsLightRow b d) (order_rows target.stages p q r)
    orders_light p q Free = tt
    orders_light p q NotAfter = each_mapped (λ t. order_row target.stages p q (t + 1) t) (IsLightRow b d) (numbers_below (target.stages - 1)) (each_any (λ t. IsLightRow b d (order_row target.stages p q (t + 1) t)) (λ t. order_light p q (t + 1) t) (numbers_below (target.stages - 1)))
    orders_light p q Before = each_mapped (λ t. order_row target.stages p q t t) (IsLightRow b d) (numbers_below target.stages) (each_any (λ t. IsLightRow b d (order_row target.stages p q t t)) (λ t. order_light p q t t) (numbers_below target.stages))

    all_taken : AllByRecursion (λ p. (kind : Resource) → taken_by kind (λ symbol. 0) p.instance.unit ≤ d) (candidates units b)
    all_taken = all_candidates (λ p. (kind : Resource) → taken_by kind (λ symbol. 0) p.unit ≤ d) 0 0 (instances units.list b) (instances_units (λ u. (kind : Resource) → taken_by kind (λ symbol. 0) u ≤ d) units b light.taken)

    all_held : AllByRecursion (λ p. p.instance.unit.cell_width * max (cell_count b p.instance.unit.cells) 1 ≤ d) (candidates units b)
    all_held = all_candidates (λ p. p.unit.cell_width * max (cell_count b p.unit.cells) 1 ≤ d) 0 0 (instances units.list b) (instances_units (λ u. u.cell_width * max (cell_count b u.cells) 1 ≤ d) units b light.held)

    pub rows_light : AllByRecursion (IsLightRow b d) (rows units target b)
    rows_light = rows_together units target b (IsLightRow b d) (record {
      assumes = each_mapped (λ r. row (size_parts 0 r.by) r.most) (IsLightRow b d) units.terms.rows light.rows;
      ones = each_mapped (λ s. row (part (neg_ℤ (pos 1)) (Size s) ∷ []) (neg_ℤ (pos 1))) (IsLightRow b d) units.terms.ones (each_any (λ s. IsLightRow b d (row (part (neg_ℤ (pos 1)) (Size s) ∷ []) (neg_ℤ (pos 1)))) (λ s. ((size_light (neg_ℤ (pos 1)) s refl, tt), one_le)) units.terms.ones);
      header = (light.header, light.header_most);
      counts = each_any (λ s. AllByRecursion (IsLightRow b d) (loop_rows b s)) loops_light (looped_symbols units);
      keys = each_more (IsKey b) (λ j. AllByRecursion (IsLightRow b d) (key_rows b j)) keys_light (step_keys units.terms b) (keys_are b 0 units.terms.steps sound.tables);
      places = each_any (λ p. AllByRecursion (IsLightRow b d) (stand_rows target.stages p)) stands_light (candidates units b);
      cells = each_any (λ p. AllByRecursion (IsLightRow b d) (cell_rows target.stages b p p.instance.unit.cells)) (λ p. cells_light p p.instance.unit.cells refl) (candidates units b);
      stages = each_any (λ t. AllByRecursion (IsLightRow b d) (use_rows target (candidates units b) t)) (λ t. each_mapped (use_row target (candidates units b) t) (IsLightRow b d) resources (each_any (λ kind. IsLightRow b d (use_row target (candidates units b) t kind)) (λ kind. taken_light (candidates units b) all_taken all_held t kind) resources)) (numbers_below target.stages);
      orders = later_any (λ p q. AllByRecursion (IsLightRow b d) (rows_of_pair target.stages (p, q))) (λ p q. orders_light p q (order_of p.instance q.instance)) (candidates units b);
    })

    pub objective_light : AreLight b d (objective units.terms b)
    objective_light = each_append (IsLight b d) (size_parts 0 units.terms.by) (map (λ j. part (rise_of j) (Reached j)) (step_keys units.terms b)) light.goal (each_mapped (λ j. part (rise_of j) (Reached j)) (IsLight b d) (step_keys units.terms b) (each_more (λ j. unsigned_abs (rise_of j) ≤ d) (λ j. unsigned_abs (rise_of j) * max 1 1 ≤ d) (λ j k. omega (arith, k)) (step_keys units.terms b) light.steps))
