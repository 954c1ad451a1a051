-- The integer program is within the limits: rows name variables by rising number, and their sums are small.
use Rattle.std.proofs.Common.{◌≡◌, ℕ, ℤ, zero, suc, pos, ◌+◌, ◌-◌, ◌*◌, ◌/◌, ◌^◌, ◌<◌, ◌≤◌, ◌≤ℤ◌, ◌+ℤ◌, ◌-ℤ◌, max, min, unsigned_abs, Bool, true, false, cond, List, [], ◌∷◌, map, length, get_or, filter, Option, Some, None, refl, sym, subst, arith, ⊎_elim}
use Rattle.std.specs.Prelude.{nat_le}
use Rattle.std.specs.List.{AllByRecursion, list_all}
use Rattle.std.proofs.lemmas.Int.{ints}
use Rattle.std.proofs.lemmas.Bool.{and_parts, leb-true, cases_lt}
use Rattle.std.proofs.lemmas.List.{length-map}
use Rattle.std.proofs.lemmas.List.Elements.{All-weaker}
use Rattle.std.proofs.Math.Nat.{mul-le-mul_left, div-mul-le_self}
use Rattle.elastic_ast.specs.declared.flat.Cells.{Cells}
use Rattle.elastic_ast.specs.declared.flat.Cells.TheVariants.{Fixed, Symbol}
use Rattle.elastic_ast.specs.declared.flat.Steps.{Steps}
use Rattle.elastic_ast.specs.Sizes.SizeSums.{negated_if}
use Rattle.elastic_ast.specs.Typing.LanguageLimits.{most_number}
use Rattle.elastic_ast.specs.Units.PlainUnits.{PlainUnit, PlainUnits}
use Rattle.elastic_ast.specs.Units.Instances.{nth_size}
use Rattle.target_desc.specs.declared.target.Target.{Target}
use Rattle.target_desc.specs.InRange.{IsInRange}
use Rattle.dep_graph.specs.declared.resource.Resource.{Resource}
use Rattle.dep_graph.specs.declared.resource.Resource.TheVariants as resource
use Rattle.dep_graph.specs.Use.{register_count, cell_count, taken_by, limit_of}
use Rattle.size_terms.specs.Rows.{coefficient_weight, is_near_pair, IsShort, IsNearTable}
use Rattle.size_terms.specs.SumLimits.{most_bulk}
use Rattle.unit_flow.specs.SoundUnits.{SoundUnits}
use Rattle.unroll_bound.specs.SizeRules.{lesser, share, rows_bound}
use Rattle.unroll_bound.specs.UnitBounds.{units_bound}
use Rattle.int_program.specs.declared.program.Part.{Part}
use Rattle.int_program.specs.Sums.{at}
use Rattle.int_program.specs.Limits.{part_weight, weight, AreSmall}
use Rattle.int_program.proofs.LimitLaws.{AreLeft, left_none, left_first, left_rest, left_more}
use Rattle.ilp_model.specs.StepKeys.{StepKey, keys_after, keys_of_pairs, keys_from, step_keys}
use Rattle.ilp_model.specs.Variables.{Variable, symbol_count, variables, variable_number, top_of}
use Rattle.ilp_model.specs.NamedRows.{NamedPart}
use Rattle.ilp_model.specs.Rows.{size_parts, rows}
use Rattle.ilp_model.specs.Objective.{rise_of, objective, first_value, first_values, constant}
use Rattle.ilp_model.specs.IpOf.{has_coefficient, part_of, parts_of, row_of, ip_of}
use Rattle.unroll_bound.specs.BoundAnswers.{most_bound, AreBoundsWithin}
use Rattle.ilp_model.specs.InLimits.{FitCells, FitsUnit, FitTypes, ProgramsAreInLimits}
use Rattle.unroll_bound.proofs.Totals.{each_more, each_two, each_any, each_append, each_mapped}
use Rattle.ilp_model.proofs.Places.{at_get, at_map}
use Rattle.ilp_model.proofs.Known.{IsVar, KnowsParts, Knows, rows_known, objective_known}
use Rattle.ilp_model.proofs.Lists.{to_all, from_all, past}
use Rattle.ilp_model.proofs.PairsAndPoints.{sound_of}
use Rattle.ilp_model.proofs.Rising.{Between, at_short}
use Rattle.ilp_model.proofs.RowsRise.{past_all, Rises, RowRises, rows_rise, objective_rises}
use Rattle.ilp_model.proofs.Light.{abs_minus, IsLight, AreLight, IsLightRow, AreNumbersLight, rows_light, objective_light}
use Rattle.ilp_model.proofs.CountLaws.{variables_and_rows_are_counted}

-- parts by number: those that stay rise too
left_low : (n low next : ℕ) (ps : List Part) → next ≤ low → AreLeft n low ps → AreLeft n next ps
left_low n low next ps l h = record { rising = h.rising; above = All-weaker (λ q. low ≤ q.var) (λ q. next ≤ q.var) (λ q k. omega (arith, k, l)) ps h.above; below = h.below }

parts_left : (num : Variable → ℕ) (n low high : ℕ) (ts : List NamedPart) → Between num low high ts → AllByRecursion (λ t. num t.variable < n) ts → AreLeft n low (parts_of num ts)
parts_left num n low high [] h k = left_none n low
parts_left num n low high (t ∷ ts) h k = go (has_coefficient t) (parts_left num n (num t.variable + 1) high ts h.1 k.1)
  where
    go : (v : Bool) → AreLeft n (num t.variable + 1) (parts_of num ts) → AreLeft n low (map (part_of num) (cond v (t ∷ filter has_coefficient ts) (filter has_coefficient ts)))
    go true r = left_more n low (part_of num t) (parts_of num ts) h.0 k.0 r
    go false r = left_low n (num t.variable + 1) low (parts_of num ts) (omega (arith, h.0)) r

-- each product is at most d, so all together are at most as many times d as there are variables
weight_le : (n low d : ℕ) (tops : List ℤ) (ps : List Part) → AreLeft n low ps → AllByRecursion (λ p. part_weight p tops ≤ d) ps → weight ps tops ≤ (n - low) * d
weight_le n low d tops [] h k = omega arith
weight_le n low d tops (p ∷ ps) h k =
    let first = left_first n low p ps h in
    let rest = weight_le n (p.var + 1) d tops ps (left_rest n low p ps h) k.1 in
    let le : (n - (p.var + 1)) + 1 ≤ n - low = omega (arith, first.0, first.1) in
    omega (arith, k.0, rest, mul-le-mul_left d le)

-- what each part comes to at most
abbrev heavy : ℕ
heavy = 2 ^ 80

both_le : (x y c d : ℕ) → x ≤ c → y ≤ d → x * y ≤ c * d
both_le x y c d h k = omega (arith, mul-le-mul_left x k, mul-le-mul_left d h)

abs_plus : (a b : ℤ) → unsigned_abs (a +ℤ b) ≤ unsigned_abs a + unsigned_abs b
abs_plus a b = omega (arith, ints)

abs_signed : (m : Bool) (v : ℕ) → unsigned_abs (negated_if m (pos v)) ≡ v
abs_signed true zero = refl
abs_signed true (suc v) = refl
abs_signed false v = refl

abs_rise : (m : Bool) (v w : ℕ) → unsigned_abs (negated_if m (pos v) -ℤ negated_if m (pos w)) ≤ v + w
abs_rise true v w = omega (arith, ints)
abs_rise false v w = omega (arith, ints)

each_small : (m : ℕ) (by : List ℤ) → coefficient_weight by ≤ m → AllByRecursion (λ a. unsigned_abs a ≤ m) by
each_small m [] h = tt
each_small m (a ∷ by) h = (omega (arith, h), each_small m by (omega (arith, h)))

-- the values of step tables
near_pairs : (ps : List (ℕ × ℕ)) → list_all is_near_pair ps ≡ true → AllByRecursion (λ p. p.1 ≤ most_number) ps
near_pairs [] h = tt
near_pairs (p ∷ ps) h = let parts = and_parts (is_near_pair p) (list_all is_near_pair ps) h in (leb-true p.1 most_number parts.0, near_pairs ps parts.1)

abbrev IsNearKey : StepKey → Type 0
IsNearKey j = (j.value ≤ most_number) × (j.before ≤ most_number)

after_near : (b : ℕ → ℕ) (m : Bool) (s j v : ℕ) (ps : List (ℕ × ℕ)) → v ≤ most_number → AllByRecursion (λ p. p.1 ≤ most_number) ps → AllByRecursion IsNearKey (keys_after b m s j v ps)
after_near b m s j v [] h k = tt
after_near b m s j v (p ∷ ps) h k = go (nat_le p.0 (b s)) (λ i. after_near b m s i p.1 ps k.0 k.1)
  where
    go : (t : Bool) → ((i : ℕ) → AllByRecursion IsNearKey (keys_after b m s i p.1 ps)) → AllByRecursion IsNearKey (cond t (record { place = j; minus = m; symbol = s; key = p.0; value = p.1; before = v } ∷ keys_after b m s (j + 1) p.1 ps) (keys_after b m s j p.1 ps))
    go true ih = ((k.0, h), ih (j + 1))
    go false ih = ih j

keys_near : (b : ℕ → ℕ) (j : ℕ) (ts : List Steps) → AllByRecursion (λ t. list_all is_near_pair t.pairs ≡ true) ts → AllByRecursion IsNearKey (keys_from b j ts)
keys_near b j [] h = tt
keys_near b j (t ∷ ts) h = each_append IsNearKey (keys_of_pairs b t.minus t.symbol j t.pairs) (keys_from b (j + length (keys_of_pairs b t.minus t.symbol j t.pairs)) ts) (of_pairs t.pairs (near_pairs t.pairs h.0)) (keys_near b (j + length (keys_of_pairs b t.minus t.symbol j t.pairs)) ts h.1)
  where
    of_pairs : (ps : List (ℕ × ℕ)) → AllByRecursion (λ p. p.1 ≤ most_number) ps → AllByRecursion IsNearKey (keys_of_pairs b t.minus t.symbol j ps)
    of_pairs [] k = tt
    of_pairs (p ∷ ps) k = after_near b t.minus t.symbol j p.1 ps k.0 k.1

first_near : (ps : List (ℕ × ℕ)) → AllByRecursion (λ p. p.1 ≤ most_number) ps → first_value ps ≤ most_number
first_near [] h = omega arith
first_near (p ∷ ps) h = h.0

firsts_near : (ts : List Steps) → AllByRecursion (λ t. list_all is_near_pair t.pairs ≡ true) ts → unsigned_abs (first_values ts) ≤ length ts * most_number
firsts_near [] h = omega arith
firsts_near (t ∷ ts) h =
    let one = first_near t.pairs (near_pairs t.pairs h.0) in
    let more = abs_plus (negated_if t.minus (pos (first_value t.pairs))) (first_values ts) in
    omega (arith, one, more, abs_signed t.minus (first_value t.pairs), firsts_near ts h.1)

-- the bound by header bits
header_least : (a h u : Option ℕ) (bound n : ℕ) → lesser a (lesser h u) ≡ Some bound → h ≡ Some n → bound ≤ n
header_least None None u bound n e f = cc
header_least (Some x) None u bound n e f = cc
header_least None (Some y) None bound n e f = let p : y ≡ bound = cc in let q : y ≡ n = cc in omega (arith, p, q)
header_least None (Some y) (Some z) bound n e f = let p : min y z ≡ bound = cc in let q : y ≡ n = cc in omega (arith, p, q)
header_least (Some x) (Some y) None bound n e f = let p : min x y ≡ bound = cc in let q : y ≡ n = cc in omega (arith, p, q)
header_least (Some x) (Some y) (Some z) bound n e f = let p : min x (min y z) ≡ bound = cc in let q : y ≡ n = cc in omega (arith, p, q)

header_times : (a u : Option ℕ) (header w bound : ℕ) → lesser a (lesser (share header w) u) ≡ Some bound → w * max bound 1 ≤ header + w
header_times a u header zero bound e = omega arith
header_times a u header (suc w) bound e =
    let le = header_least a (share header (suc w)) u bound (header / suc w) e refl in
    let most = div-mul-le_self header (suc w) in
    let more : max bound 1 ≤ bound + 1 = omega arith in
    omega (arith, most, mul-le-mul_left (suc w) le, mul-le-mul_left (suc w) more)

module _ (units : PlainUnits) (target : Target) (bounds : List ℕ) (sound : SoundUnits units) (fit : FitTypes units) (range : IsInRange target) (modest : AreBoundsWithin units target bounds) where
  abbrev b : ℕ → ℕ
  b = nth_size bounds

  bound_small : (s : ℕ) → b s ≤ most_bound
  bound_small s = ⊎_elim (λ lt. modest.small s 0 lt) (λ le. (let e : b s ≡ 0 = past bounds s 0 le in omega (arith, e))) (cases_lt s (length bounds))

  top_small : (s : ℕ) → max (b s) 1 ≤ most_bound
  top_small s = omega (arith, bound_small s)

  by_light : (by : List ℤ) (s : ℕ) → AllByRecursion (λ a. unsigned_abs a ≤ most_bulk) by → AreLight b heavy (size_parts s by)
  by_light [] s h = tt
  by_light (a ∷ by) s h = (omega (arith, both_le (unsigned_abs a) (max (b s) 1) most_bulk most_bound h.0 (top_small s)), by_light by (s + 1) h.1)

  bits_light : (ws : List ℕ) (s : ℕ) → ((k : ℕ) → k < length ws → get_or ws k 0 * max (b (s + k)) 1 ≤ heavy) → AreLight b heavy (size_parts s (map pos ws))
  bits_light [] s h = tt
  bits_light (w ∷ ws) s h = (
    subst (λ k. w * max (b k) 1 ≤ heavy) (let e : s + 0 ≡ s = omega arith in e) (h 0 (omega arith)),
    bits_light ws (s + 1) (λ k l. subst (λ i. get_or ws k 0 * max (b i) 1 ≤ heavy) (let e : s + suc k ≡ s + 1 + k = omega arith in e) (h (suc k) (omega (arith, l)))),
  )

  bit_light : (k : ℕ) → k < length units.symbol_bits → get_or units.symbol_bits k 0 * max (b (0 + k)) 1 ≤ heavy
  bit_light k l =
      let n = sound.bits in
      let times = header_times (rows_bound k units.terms.rows) (units_bound units target k) target.header_bits (get_or units.symbol_bits k 0) (b k) (modest.found.each k (omega (arith, n, l))) in
      let small = fit.symbol_bits k 0 l in
      let most = range.header_bits in
      let here : 0 + k ≡ k = omega arith in
      subst (λ i. get_or units.symbol_bits k 0 * max (b i) 1 ≤ heavy) (sym here) (omega (arith, times, small, most))

  rows_near : AllByRecursion (λ r. AreLight b heavy (size_parts 0 r.by) × (unsigned_abs r.most ≤ heavy)) units.terms.rows
  rows_near = each_more (λ r. IsShort (symbol_count units) r.by r.most) (λ r. AreLight b heavy (size_parts 0 r.by) × (unsigned_abs r.most ≤ heavy)) (λ r k. (by_light r.by 0 (each_small most_bulk r.by k.small), (let near = k.near in omega (arith, near)))) units.terms.rows (from_all (λ r. IsShort (symbol_count units) r.by r.most) units.terms.rows sound.short.rows)

  tables_near : AllByRecursion (λ t. list_all is_near_pair t.pairs ≡ true) units.terms.steps
  tables_near = each_more (IsNearTable (symbol_count units)) (λ t. list_all is_near_pair t.pairs ≡ true) (λ t k. k.near) units.terms.steps (from_all (IsNearTable (symbol_count units)) units.terms.steps sound.short.tables)

  memory_small : (u : PlainUnit) (c : Option Cells) → FitCells c → u.cell_width < 2 ^ 8 → cell_count (λ symbol. 0) c * u.cell_width ≤ heavy
  memory_small u None f l = omega arith
  memory_small u (Some (Fixed n)) f l = omega (arith, both_le n u.cell_width (2 ^ 32) (2 ^ 8) (omega (arith, f)) (omega (arith, l)))
  memory_small u (Some (Symbol s)) f l = omega arith

  cells_small : (c : Option Cells) → FitCells c → max (cell_count b c) 1 ≤ 2 ^ 32
  cells_small None f = omega arith
  cells_small (Some (Fixed n)) f = omega (arith, f)
  cells_small (Some (Symbol s)) f = omega (arith, bound_small s)

  one_register : (u : PlainUnit) → taken_by resource.Stateful (λ symbol. 0) u ≤ 1
  one_register u = go u.cells
    where
      go : (c : Option Cells) → register_count c ≤ 1
      go None = omega arith
      go (Some c) = omega arith

  unit_taken : (u : PlainUnit) → FitsUnit u → (kind : Resource) → taken_by kind (λ symbol. 0) u ≤ heavy
  unit_taken u f resource.Stateful = omega (arith, one_register u)
  unit_taken u f resource.Stateless = let l = f.cost in omega (arith, l)
  unit_taken u f resource.Memory = memory_small u u.cells f.cells f.cell_width
  unit_taken u f resource.TableBits = let l = f.table_bits in omega (arith, l)
  unit_taken u f resource.TernaryBits = let l = f.ternary_bits in omega (arith, l)

  unit_held : (u : PlainUnit) → FitsUnit u → u.cell_width * max (cell_count b u.cells) 1 ≤ heavy
  unit_held u f = let l = f.cell_width in omega (arith, both_le u.cell_width (max (cell_count b u.cells) 1) (2 ^ 8) (2 ^ 32) (omega (arith, l)) (cells_small u.cells f.cells))

  limit_small : (kind : Resource) → limit_of kind target ≤ heavy
  limit_small resource.Stateful = let l = range.stateful in omega (arith, l)
  limit_small resource.Stateless = let l = range.stateless in omega (arith, l)
  limit_small resource.Memory = let l = range.memory_bits in omega (arith, l)
  limit_small resource.TableBits = let l = range.table_bits in omega (arith, l)
  limit_small resource.TernaryBits = let l = range.ternary_bits in omega (arith, l)

  numbers_light : AreNumbersLight units target b heavy
  numbers_light = record {
    bounds = λ s. omega (arith, bound_small s);
    rows = rows_near;
    goal = by_light units.terms.by 0 (each_small most_bulk units.terms.by sound.short.utility.small);
    header = bits_light units.symbol_bits 0 bit_light;
    header_most = (let l = range.header_bits in let f = fit.fixed_bits in omega (arith, abs_minus target.header_bits units.fixed_bits, l, f));
    steps = each_more IsNearKey (λ j. unsigned_abs (rise_of j) ≤ heavy) (λ j k. omega (arith, abs_rise j.minus j.value j.before, k.0, k.1)) (step_keys units.terms b) (keys_near b 0 units.terms.steps tables_near);
    taken = each_more FitsUnit (λ u. (kind : Resource) → taken_by kind (λ symbol. 0) u ≤ heavy) unit_taken units.list (from_all FitsUnit units.list fit.list);
    held = each_more FitsUnit (λ u. u.cell_width * max (cell_count b u.cells) 1 ≤ heavy) unit_held units.list (from_all FitsUnit units.list fit.list);
    limits = limit_small;
  }

  abbrev tops : List ℤ
  tops = (ip_of units target b).tops

  abbrev num : Variable → ℕ
  num = variable_number units target b

  few : length tops ≤ 100000
  few = let n = (variables_and_rows_are_counted units target b sound).variables in let m = modest.variables in omega (arith, n, m)

  below : (ts : List NamedPart) → KnowsParts units target b ts → AllByRecursion (λ t. num t.variable < length tops) ts
  below ts h = each_more (λ t. IsVar units target b t.variable) (λ t. num t.variable < length tops) (λ t k. omega (arith, at_short (variables units target b) (num t.variable) t.variable k.0, length-map (variables units target b) (λ v. pos (top_of b v)))) ts h

  part_small : (t : NamedPart) → IsVar units target b t.variable → IsLight b heavy t → part_weight (part_of num t) tops ≤ heavy
  part_small t k h =
      let e : at tops (num t.variable) ≡ pos (top_of b t.variable) = at_get tops (num t.variable) (pos (top_of b t.variable)) (pos 0) (at_map (λ v. pos (top_of b v)) (variables units target b) (num t.variable) t.variable k.0) in
      subst (λ z. unsigned_abs t.by * max (unsigned_abs z) 1 ≤ heavy) (sym e) h

  parts_small : (ts : List NamedPart) → KnowsParts units target b ts → AreLight b heavy ts → AllByRecursion (λ p. part_weight p tops ≤ heavy) (parts_of num ts)
  parts_small [] k h = tt
  parts_small (t ∷ ts) k h = go (has_coefficient t) (parts_small ts k.1 h.1)
    where
      go : (v : Bool) → AllByRecursion (λ p. part_weight p tops ≤ heavy) (parts_of num ts) → AllByRecursion (λ p. part_weight p tops ≤ heavy) (map (part_of num) (cond v (t ∷ filter has_coefficient ts) (filter has_coefficient ts)))
      go true r = (part_small t k.0 h.0, r)
      go false r = r

  all_small : (ts : List NamedPart) (most : ℤ) → Rises units target b ts → KnowsParts units target b ts → AreLight b heavy ts → unsigned_abs most ≤ heavy → AreSmall (parts_of num ts) most tops
  all_small ts most r k h m =
      let left = parts_left num (length tops) 0 (past_all units target b) ts r (below ts k) in
      let sum = weight_le (length tops) 0 heavy tops (parts_of num ts) left (parts_small ts k h) in
      record { vars = left.below; rising = left.rising; small = omega (arith, sum, few, m) }

  base_small : unsigned_abs (constant units.terms) ≤ heavy
  base_small =
      let near = sound.short.utility.near in
      let firsts = firsts_near units.terms.steps tables_near in
      let few = sound.short.few in
      omega (arith, abs_plus units.terms.base (first_values units.terms.steps), near, firsts, few)

  each_row_small : AllByRecursion (λ r. AreSmall (parts_of num r.parts) r.most tops) (rows units target b)
  each_row_small =
      let is_sound = sound_of units sound in
      each_two (RowRises units target b) (λ r. Knows units target b r × IsLightRow b heavy r) (λ r. AreSmall (parts_of num r.parts) r.most tops) (λ r x y. all_small r.parts r.most x y.0 y.1.0 y.1.1) (rows units target b)
      (rows_rise units target b is_sound)
      (each_two (Knows units target b) (IsLightRow b heavy) (λ r. Knows units target b r × IsLightRow b heavy r) (λ r x y. (x, y)) (rows units target b) (rows_known units target b is_sound) (rows_light b heavy units target is_sound numbers_light))

pub programs_are_in_limits : ProgramsAreInLimits
programs_are_in_limits units target bounds sound fit range modest =
    let is_sound = sound_of units sound in
    let counted = variables_and_rows_are_counted units target (nth_size bounds) sound in
    record {
      variables = few units target bounds sound fit range modest;
      row_count = (let n = counted.rows in let m = modest.rows in omega (arith, n, m));
      tops = to_all (λ top. pos 0 ≤ℤ top) (ip_of units target (nth_size bounds)).tops (each_mapped (λ v. pos (top_of (nth_size bounds) v)) (λ top. pos 0 ≤ℤ top) (variables units target (nth_size bounds)) (each_any (λ v. pos 0 ≤ℤ pos (top_of (nth_size bounds) v)) (λ v. omega (arith, ints)) (variables units target (nth_size bounds))));
      rows = to_all (λ row. AreSmall row.parts row.most (ip_of units target (nth_size bounds)).tops) (ip_of units target (nth_size bounds)).rows (each_mapped (row_of (variable_number units target (nth_size bounds))) (λ row. AreSmall row.parts row.most (ip_of units target (nth_size bounds)).tops) (rows units target (nth_size bounds)) (each_row_small units target bounds sound fit range modest));
      goal = all_small units target bounds sound fit range modest (objective units.terms (nth_size bounds)) (constant units.terms) (objective_rises units target (nth_size bounds) is_sound) (objective_known units target (nth_size bounds) is_sound) (objective_light (nth_size bounds) heavy units target is_sound (numbers_light units target bounds sound fit range modest)) (base_small units target bounds sound fit range modest);
    }
