-- What stages, shared locations and cells of registers say of the size of a loop.
use Rattle.std.proofs.Common.{◌≡◌, ℕ, zero, suc, ◌+◌, ◌*◌, ◌<◌, ◌≤◌, Bool, true, false, cond, not, nat_eq, ◌&&◌, ◌||◌, List, [], ◌∷◌, length, get_or, Option, Some, None, refl, sym, ap, ◌∙◌, subst, arith, ⊎_elim, eqb-true, ℤ, pos, negsuc, ◌+ℤ◌, ◌*ℤ◌}
use Rattle.std.specs.Prelude.{◌≤ℤ◌, ◌==◌, count_by, if◌then◌else◌}
use Rattle.std.specs.List.{AllByRecursion, list_any}
use Rattle.std.proofs.Math.Nat.{mul-le-mul_left}
use Rattle.std.proofs.Math.IntN.{zero-*ℤ, *ℤ-zero}
use Rattle.std.proofs.lemmas.Int.{ints}
use Rattle.std.proofs.lemmas.Bool.{and_parts, or_cases, or_left, or_right, and_from, cases_lt, eq-eqb}
use Rattle.std.proofs.lemmas.List.Sums.{sum_by-cons}
use Rattle.std.proofs.lemmas.List.Elements.{All-head, All-tail}
use Rattle.elastic_ast.specs.declared.flat.At.{At}
use Rattle.elastic_ast.specs.declared.flat.Cells.{Cells}
use Rattle.elastic_ast.specs.declared.flat.Cells.TheVariants as cells
use Rattle.elastic_ast.specs.declared.flat.Linear.{Linear}
use Rattle.elastic_ast.specs.declared.flat.Location.{Location}
use Rattle.elastic_ast.specs.declared.flat.Location.TheVariants as location
use Rattle.elastic_ast.specs.declared.flat.Terms.{Terms}
use Rattle.elastic_ast.specs.Units.PlainUnits.{PlainUnit}
use Rattle.elastic_ast.specs.Units.Instances.{instances}
use Rattle.elastic_ast.specs.Units.Order.{Relation, coincide, touches, relation, order, order_of}
use Rattle.elastic_ast.specs.Units.Reach.{is_own, one_thing}
use Rattle.elastic_ast.proofs.Typing.SameNames.{same_self}
use Rattle.size_terms.specs.Rows.{dot, RowHolds, RowsHold, OneHolds, OnesHold, TermsHold}
use Rattle.target_desc.specs.declared.target.Target.{Target}
use Rattle.dep_graph.specs.declared.resource.Resource.TheVariants as resource
use Rattle.dep_graph.specs.Laid.{Placed, laid}
use Rattle.dep_graph.specs.PlacementRules.{ListsInstances, StagesExist, StandsSo, StandInOrder, OrderIsKept}
use Rattle.dep_graph.specs.Use.{cell_count, taken_by, sum_in}
use Rattle.place_check.specs.Standing.{no_unit}
use Rattle.place_check.specs.Walking.{turns_of}
use Rattle.unit_flow.specs.SoundUnits.{IsCellCount}
use Rattle.unroll_bound.specs.SizeRules.{share, is_symbol, coefficient, looped_sum, one_each, writes_shared, is_shared, is_negative, is_nonzero, needs_one, surely_exists, counts_cells, cell_bound, cells_bound}
use Rattle.unroll_bound.proofs.Totals.{each_more, each_two, total, sum_is_total, total_le, below_le}
use Rattle.unroll_bound.proofs.InstanceTotals.{turned_from}
use Rattle.unroll_bound.proofs.RuleLaws.{lesser_law, share_law}
use Rattle.unroll_bound.proofs.PlacedLaws.{stage_sums, placed_total, placed_units, hits, hits_le, found_one, rise, within_stage, later_known}

-- a size times what the units in its loops take is no more than what all instances take
looped_one : (sizes : ℕ → ℕ) (symbol amount : ℕ) (size : Option ℕ) → sizes symbol * (if is_symbol symbol size then amount else 0) ≤ turns_of sizes size * amount
looped_one sizes symbol amount None = omega arith
looped_one sizes symbol amount (Some other) = go (nat_eq other symbol) refl
  where
    go : (v : Bool) → nat_eq other symbol ≡ v → sizes symbol * (if v then amount else 0) ≤ sizes other * amount
    go true e = let q = ap (λ i. sizes i * amount) (eqb-true other symbol e) in omega (arith, q)
    go false e = omega arith

looped_le : (sizes : ℕ → ℕ) (amount : PlainUnit → ℕ) (symbol number : ℕ) (units : List PlainUnit) → sizes symbol * looped_sum amount symbol units ≤ turned_from sizes (λ n unit. amount unit) number units
looped_le sizes amount symbol number [] = omega arith
looped_le sizes amount symbol number (unit ∷ units) =
    let e = ap (λ n. sizes symbol * n) (sum_by-cons (λ u. if is_symbol symbol u.size then amount u else 0) unit units) in
    omega (arith, e, looped_one sizes symbol (amount unit) unit.size, looped_le sizes amount symbol (number + 1) units)

pub looped_more : (f g : PlainUnit → ℕ) (symbol : ℕ) (units : List PlainUnit) → AllByRecursion (λ unit. f unit ≤ g unit) units → looped_sum f symbol units ≤ looped_sum g symbol units
looped_more f g symbol units h =
    omega (
      arith,
      sum_is_total (λ u. if is_symbol symbol u.size then f u else 0) units,
      sum_is_total (λ u. if is_symbol symbol u.size then g u else 0) units,
      total_le (λ u. if is_symbol symbol u.size then f u else 0) (λ u. if is_symbol symbol u.size then g u else 0) units
          (each_more (λ unit. f unit ≤ g unit) (λ unit. (if is_symbol symbol unit.size then f unit else 0) ≤ (if is_symbol symbol unit.size then g unit else 0)) (λ unit k. both (is_symbol symbol unit.size) (f unit) (g unit) k) units h),
    )
  where
    both : (v : Bool) (m n : ℕ) → m ≤ n → (if v then m else 0) ≤ (if v then n else 0)
    both true m n h = h
    both false m n h = omega arith

-- a location that isn't own is one location at any two indices
meets_itself : (at : Location) (i j : ℕ) → not (is_own at) ≡ true → coincide at i at j ≡ true
meets_itself at i j h = and_from (one_thing at at) (not (is_own at && is_own at) || i == j) (one_itself at) (or_left (not (is_own at && is_own at)) (i == j) (twice (is_own at) h))
  where
    twice : (v : Bool) → not v ≡ true → not (v && v) ≡ true
    twice true h = h
    twice false h = refl

    one_itself : (at : Location) → one_thing at at ≡ true
    one_itself (location.Header header field) = and_from _ _ (same_self header) (same_self field)
    one_itself (location.Valid header) = same_self header
    one_itself (location.Meta name own) = same_self name
    one_itself (location.Std name) = same_self name
    one_itself (location.Pred number own) = eq-eqb number number refl
    one_itself (location.Reg name own) = same_self name

any_known : (test : Location → Bool) (ats : List Location) → list_any test ats ≡ true → (at : Location) × (test at ≡ true) × ((other : Location → Bool) → other at ≡ true → list_any other ats ≡ true)
any_known test [] h = cc
any_known test (at ∷ ats) h = ⊎_elim
    (λ q. (at, q, λ other k. or_left (other at) (list_any other ats) k))
    (λ q. (let r = any_known test ats q in (r.0, r.1, λ other k. or_right (other at) (list_any other ats) (r.2 other k))))
    (or_cases (test at) (list_any test ats) h)

before_of : (read written back : Bool) → written ≡ true → relation read written back ≡ Relation.Before
before_of true written back h = refl
before_of false true back h = refl
before_of false false back h = cc

-- two instances of one unit that writes a shared location
pub shared_before : (unit : PlainUnit) (i j : ℕ) → writes_shared unit ≡ true → order unit unit i j ≡ Relation.Before
shared_before unit i j h =
    let r = any_known (λ at. not (is_own at)) unit.writes h in
    before_of _ _ _ (r.2 (λ one. touches one j unit.writes i) (r.2 (λ other. coincide r.0 j other i) (meets_itself r.0 j i r.1)))

shared_unit : (symbol : ℕ) (units : List PlainUnit) → is_shared symbol units ≡ true → (k : ℕ) × (k < length units) × (is_symbol symbol (get_or units k no_unit).size ≡ true) × (writes_shared (get_or units k no_unit) ≡ true)
shared_unit symbol [] h = cc
shared_unit symbol (unit ∷ units) h = ⊎_elim
    (λ q. (let p = and_parts (is_symbol symbol unit.size) (writes_shared unit) q in (0, omega arith, p.0, p.1)))
    (λ q. (let r = shared_unit symbol units q in (suc r.0, (let l = r.1 in omega (arith, l)), r.2, r.3)))
    (or_cases (is_symbol symbol unit.size && writes_shared unit) (is_shared symbol units) h)

symbol_turns : (sizes : ℕ → ℕ) (symbol : ℕ) (size : Option ℕ) → is_symbol symbol size ≡ true → turns_of sizes size ≡ sizes symbol
symbol_turns sizes symbol None h = cc
symbol_turns sizes symbol (Some other) h = ap sizes (eqb-true other symbol h)

module _ (units : List PlainUnit) (sizes : ℕ → ℕ) (placement : List At) (listed : ListsInstances units sizes placement) (target : Target) (staged : StagesExist target (laid (instances units sizes) placement)) where
  abbrev placed : List Placed
  placed = laid (instances units sizes) placement

  pub stages_law : (amount : PlainUnit → ℕ) (limit symbol : ℕ) → ((stage : ℕ) → stage < target.stages → sum_in amount stage placed ≤ limit) → sizes symbol * looped_sum amount symbol units ≤ target.stages * limit
  stages_law amount limit symbol h =
      omega (arith, looped_le sizes amount symbol 0 units, placed_total units sizes placement listed (λ n unit. amount unit), stage_sums amount target.stages placed staged, below_le (λ stage. sum_in amount stage placed) target.stages limit h)

  pub shared_law : OrderIsKept placed → (symbol : ℕ) → is_shared symbol units ≡ true → sizes symbol ≤ target.stages
  shared_law ordered symbol h =
      let r = shared_unit symbol units h in
      let k : ℕ = r.0 in
      let unit : PlainUnit = get_or units k no_unit in
      let test : Placed → Bool = λ one. nat_eq one.instance.number k in
      let known : AllByRecursion (λ one. test one ≡ true → one.instance.unit ≡ unit) placed =
      each_more (λ one. one.instance.unit ≡ get_or units one.instance.number no_unit) (λ one. test one ≡ true → one.instance.unit ≡ unit) (λ one e t. e ∙ ap (λ n. get_or units n no_unit) (eqb-true one.instance.number k t)) placed (placed_units units sizes placement listed) in
      let rising = rise test 0 target.stages placed (omega arith)
      (each_more (λ one. one.stage < target.stages) (λ one. test one ≡ true → (0 ≤ one.stage) × (one.stage < target.stages)) (λ one l t. (omega arith, l)) placed staged)
      (later_known (λ one. test one ≡ true → one.instance.unit ≡ unit) StandInOrder (λ one later. test one ≡ true → test later ≡ true → one.stage < later.stage)
      (λ one later a b stand p q. subst (λ o. StandsSo o one.stage later.stage) (before one later (a p) (b q) r.3) stand) placed known ordered) in
      omega (arith, rising, placed_total units sizes placement listed (hits k), hits_le sizes k 0 k units (omega arith) r.1, symbol_turns sizes symbol unit.size r.2)
    where
      before : (one later : Placed) {unit : PlainUnit} → one.instance.unit ≡ unit → later.instance.unit ≡ unit → writes_shared unit ≡ true → order_of one.instance later.instance ≡ Relation.Before
      before one later {unit} a b h =
          ap (λ u. order u later.instance.unit one.instance.index later.instance.index) a ∙ ap (λ u. order unit u one.instance.index later.instance.index) b ∙ shared_before unit one.instance.index later.instance.index h

  -- a unit that runs takes no more of a stage than there is
  pub running_law : (amount : PlainUnit → ℕ) (limit k : ℕ) → ((stage : ℕ) → stage < target.stages → sum_in amount stage placed ≤ limit) → k < length units → 1 ≤ turns_of sizes (get_or units k no_unit).size → amount (get_or units k no_unit) ≤ limit
  running_law amount limit k h l runs =
      found_one (λ one. nat_eq one.instance.number k) (amount (get_or units k no_unit) ≤ limit) placed
      (each_two (λ one. one.instance.unit ≡ get_or units one.instance.number no_unit) (λ one. amount one.instance.unit ≤ limit) (λ one. nat_eq one.instance.number k ≡ true → amount (get_or units k no_unit) ≤ limit)
      (λ one e m t. subst (λ unit. amount unit ≤ limit) (e ∙ ap (λ n. get_or units n no_unit) (eqb-true one.instance.number k t)) m) placed (placed_units units sizes placement listed) (within_stage amount target.stages limit placed staged h))
      (omega (arith, runs, placed_total units sizes placement listed (hits k), hits_le sizes k 0 k units (omega arith) l))

-- registers that surely exist
in_ones : (symbol : ℕ) (ones sizes : List ℕ) → list_any (nat_eq symbol) ones ≡ true → OnesHold sizes ones → 1 ≤ get_or sizes symbol 0
in_ones symbol [] sizes h k = cc
in_ones symbol (one ∷ ones) sizes h k = ⊎_elim
    (λ q. subst (λ i. 1 ≤ get_or sizes i 0) (sym (eqb-true symbol one q)) (All-head (OneHolds sizes) one ones k))
    (λ q. in_ones symbol ones sizes q (All-tail (OneHolds sizes) one ones k))
    (or_cases (nat_eq symbol one) (list_any (nat_eq symbol) ones) h)

abbrev nonzeros : List ℤ → ℕ
nonzeros by = total (λ x. cond (is_nonzero x) 1 0) by

zero_of : (x : ℤ) → is_nonzero x ≡ false → x ≡ pos 0
zero_of (pos zero) h = refl
zero_of (pos (suc n)) h = cc
zero_of (negsuc n) h = cc

none_here : (x : ℤ) (n : ℕ) → cond (is_nonzero x) 1 0 + n ≡ 0 → (x ≡ pos 0) × (n ≡ 0)
none_here (pos zero) n h = (refl, omega (arith, h))
none_here (pos (suc m)) n h = absurd (omega (arith, h))
none_here (negsuc m) n h = absurd (omega (arith, h))

none_at : (by : List ℤ) (symbol : ℕ) → nonzeros by ≡ 0 → get_or by symbol (pos 0) ≡ pos 0
none_at [] symbol h = refl
none_at (x ∷ by) zero h = (none_here x (nonzeros by) h).0
none_at (x ∷ by) (suc symbol) h = none_at by symbol (none_here x (nonzeros by) h).1

none_dot : (by : List ℤ) (sizes : List ℕ) → nonzeros by ≡ 0 → dot by sizes ≡ pos 0
none_dot [] sizes h = refl
none_dot (x ∷ by) [] h = refl
none_dot (x ∷ by) (size ∷ sizes) h =
    let r = none_here x (nonzeros by) h in
    let e : pos size *ℤ x ≡ pos 0 = ap (λ z. pos size *ℤ z) r.0 ∙ *ℤ-zero (pos size) in
    let ih = none_dot by sizes r.1 in
    omega (arith, ints, e, ih)

-- a sum with one coefficient that isn't 0, at a size of 0
lone_dot : (by : List ℤ) (sizes : List ℕ) (symbol : ℕ) → nonzeros by ≡ 1 → is_negative (get_or by symbol (pos 0)) ≡ true → get_or sizes symbol 0 ≡ 0 → dot by sizes ≡ pos 0
lone_dot [] sizes symbol h n z = refl
lone_dot (x ∷ by) [] symbol h n z = refl
lone_dot (pos m ∷ by) (size ∷ sizes) zero h n z = cc
lone_dot (negsuc m ∷ by) (size ∷ sizes) zero h n z =
    let e : pos size *ℤ negsuc m ≡ pos 0 = ap (λ s. pos s *ℤ negsuc m) z ∙ zero-*ℤ (negsuc m) in
    let rest = none_dot by sizes (omega (arith, h)) in
    omega (arith, ints, e, rest)
lone_dot (x ∷ by) (size ∷ sizes) (suc symbol) h n z = go (is_nonzero x) refl h (λ k. lone_dot by sizes symbol k n z)
  where
    go : (v : Bool) → is_nonzero x ≡ v → cond v 1 0 + nonzeros by ≡ 1 → (nonzeros by ≡ 1 → dot by sizes ≡ pos 0) → (pos size *ℤ x) +ℤ dot by sizes ≡ pos 0
    go true e k ih = absurd (both_signs (get_or by symbol (pos 0)) (none_at by symbol (omega (arith, k))) n)
      where
        both_signs : (y : ℤ) → y ≡ pos 0 → is_negative y ≡ true → ⊥
        both_signs (pos m) p q = cc
        both_signs (negsuc m) p q = cc
    go false e k ih =
        let f : pos size *ℤ x ≡ pos 0 = ap (λ y. pos size *ℤ y) (zero_of x e) ∙ *ℤ-zero (pos size) in
        let rest = ih (omega (arith, k)) in
        omega (arith, ints, f, rest)

in_rows : (symbol : ℕ) (rows : List Linear) (sizes : List ℕ) → list_any (needs_one symbol) rows ≡ true → RowsHold rows sizes → 1 ≤ get_or sizes symbol 0
in_rows symbol [] sizes h k = cc
in_rows symbol (row ∷ rows) sizes h k = ⊎_elim now (λ q. in_rows symbol rows sizes q (All-tail (RowHolds sizes) row rows k)) (or_cases (needs_one symbol row) (list_any (needs_one symbol) rows) h)
  where
    bad : (d m : ℤ) → d ≡ pos 0 → d ≤ℤ m → is_negative m ≡ true → ⊥
    bad d (pos m) e l n = cc
    bad d (negsuc m) e l n = absurd (omega (arith, ints, e, l))

    now : needs_one symbol row ≡ true → 1 ≤ get_or sizes symbol 0
    now q =
        let a = and_parts (count_by is_nonzero row.by == 1) (is_negative (coefficient row symbol) && is_negative row.most) q in
        let b = and_parts (is_negative (coefficient row symbol)) (is_negative row.most) a.1 in
        let one : nonzeros row.by ≡ 1 = sym (sum_is_total (λ x. cond (is_nonzero x) 1 0) row.by) ∙ eqb-true (count_by is_nonzero row.by) 1 a.0 in
        ⊎_elim (λ lt. omega arith)
        (λ le. absurd (bad (dot row.by sizes) row.most (lone_dot row.by sizes symbol one b.0 (omega arith)) (All-head (RowHolds sizes) row rows k) b.1))
        (cases_lt 0 (get_or sizes symbol 0))

pub surely_runs : (terms : Terms) (sizes : List ℕ) (size : Option ℕ) → TermsHold terms sizes → surely_exists terms size ≡ true → 1 ≤ turns_of (λ symbol. get_or sizes symbol 0) size
surely_runs terms sizes None h k = omega arith
surely_runs terms sizes (Some symbol) h k = ⊎_elim (λ q. in_ones symbol terms.ones sizes q h.ones) (λ q. in_rows symbol terms.rows sizes q h.rows) (or_cases (list_any (nat_eq symbol) terms.ones) (list_any (needs_one symbol) terms.rows) k)

-- a symbolic number of cells is at least 1
one_cell : (symbols : ℕ) (ones sizes : List ℕ) (count : Option Cells) → IsCellCount symbols ones count → OnesHold sizes ones → cell_count one_each count ≤ cell_count (λ symbol. get_or sizes symbol 0) count
one_cell symbols ones sizes None h k = omega arith
one_cell symbols ones sizes (Some (cells.Fixed number)) h k = omega arith
one_cell symbols ones sizes (Some (cells.Symbol symbol)) h k = in_ones symbol ones sizes h.1 k

pub one_memory : (symbols : ℕ) (ones sizes : List ℕ) (unit : PlainUnit) → IsCellCount symbols ones unit.cells → OnesHold sizes ones → taken_by resource.Memory one_each unit ≤ taken_by resource.Memory (λ symbol. get_or sizes symbol 0) unit
one_memory symbols ones sizes unit h k = times (cell_count one_each unit.cells) (cell_count (λ symbol. get_or sizes symbol 0) unit.cells) unit.cell_width (one_cell symbols ones sizes unit.cells h k)
  where
    times : (m n w : ℕ) → m ≤ n → m * w ≤ n * w
    times m n w h = omega (arith, mul-le-mul_left w h)

-- the cells of one register, and of all
cell_law : (terms : Terms) (sizes : ℕ → ℕ) (memory symbol bound : ℕ) (unit : PlainUnit) → (surely_exists terms unit.size ≡ true → taken_by resource.Memory sizes unit ≤ memory) → cell_bound terms memory symbol unit ≡ Some bound → sizes symbol ≤ bound
cell_law terms sizes memory symbol bound unit h = by unit.cells refl
  where
    go : (other : ℕ) (v : Bool) → (v ≡ true → sizes other * unit.cell_width ≤ memory) → (u : Bool) → nat_eq other symbol ≡ u → (if u && v then share memory unit.cell_width else None) ≡ Some bound → sizes symbol ≤ bound
    go other true m true e f = share_law memory unit.cell_width (sizes symbol) bound (subst (λ i. sizes i * unit.cell_width ≤ memory) (eqb-true other symbol e) (m refl)) f
    go other false m true e f = absurd (cc f)
    go other v m false e f = absurd (cc f)

    by : (count : Option Cells) → unit.cells ≡ count → (if counts_cells symbol count && surely_exists terms unit.size then share memory unit.cell_width else None) ≡ Some bound → sizes symbol ≤ bound
    by None e f = absurd (cc f)
    by (Some (cells.Fixed number)) e f = absurd (cc f)
    by (Some (cells.Symbol other)) e f = go other (surely_exists terms unit.size) (λ t. subst (λ c. cell_count sizes c * unit.cell_width ≤ memory) e (h t)) (nat_eq other symbol) refl f

pub cells_law : (terms : Terms) (sizes : ℕ → ℕ) (memory symbol bound : ℕ) (units : List PlainUnit) → ((k : ℕ) → k < length units → surely_exists terms (get_or units k no_unit).size ≡ true → taken_by resource.Memory sizes (get_or units k no_unit) ≤ memory)
    → cells_bound terms memory symbol units ≡ Some bound → sizes symbol ≤ bound
cells_law terms sizes memory symbol bound [] h e = absurd (cc e)
cells_law terms sizes memory symbol bound (unit ∷ units) h e =
    lesser_law (cell_bound terms memory symbol unit) (cells_bound terms memory symbol units) (sizes symbol) bound
    (λ n f. cell_law terms sizes memory symbol n unit (h 0 (omega arith)) f)
    (λ n f. cells_law terms sizes memory symbol n units (λ k l. h (suc k) (omega arith)) f) e
