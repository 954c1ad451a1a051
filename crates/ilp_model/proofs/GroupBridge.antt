-- The named rows of instances are those that are written of what is listed.
use Rattle.std.proofs.Common.{◌≡◌, ℕ, ℤ, pos, neg_ℤ, ◌+◌, ◌-◌, ◌*◌, ◌<◌, Bool, true, false, cond, List, [], ◌∷◌, ◌++◌, map, filter, Option, Some, None, refl, sym, ap, ap₂, ◌∙◌, arith}
use Rattle.std.specs.Prelude.{◌-ℤ◌, nat_le, flat_map}
use Rattle.std.specs.List.{AllByRecursion}
use Rattle.std.proofs.lemmas.List.{map-append}
use Rattle.elastic_ast.specs.declared.flat.Cells.{Cells}
use Rattle.elastic_ast.specs.declared.flat.Cells.TheVariants.{Fixed, Symbol}
use Rattle.elastic_ast.specs.Meaning.Values.{bit}
use Rattle.elastic_ast.specs.Units.PlainUnits.{PlainUnit, PlainUnits}
use Rattle.elastic_ast.specs.Units.Instances.{Instance, each_turn, instances}
use Rattle.elastic_ast.specs.Units.Order.{Relation, order, order_of}
use Rattle.elastic_ast.specs.Units.Order.Relation.{Free, NotAfter, Before}
use Rattle.target_desc.specs.declared.target.Target.{Target}
use Rattle.target_desc.specs.InRange.{IsInRange}
use Rattle.dep_graph.specs.declared.resource.Resource.{Resource}
use Rattle.dep_graph.specs.declared.resource.Resource.TheVariants as resource
use Rattle.dep_graph.specs.Use.{taken_by, limit_of}
use Rattle.int_program.specs.declared.program.Row.{Row}
use Rattle.place_check.specs.FirstFault.{each_pair, resources}
use Rattle.unit_flow.specs.SoundUnits.{SoundUnits}
use Rattle.unroll_bound.specs.Counts.{is_symbolic, numbers_below}
use Rattle.unroll_bound.proofs.Totals.{each_more}
use Rattle.ilp_model.specs.Candidates.{Candidate, candidates_from, candidates, symbolic}
use Rattle.ilp_model.specs.ListedCandidates.{listed}
use Rattle.ilp_model.specs.Numbers.{AreNumbers}
use Rattle.ilp_model.specs.NamedRows.{part, plus, minus, once}
use Rattle.ilp_model.specs.Variables.{Variable, variable_number}
use Rattle.ilp_model.specs.Variables.Variable.{Size, Exists, Stands, Held}
use Rattle.ilp_model.specs.IpOf.{parts_of, row_of}
use Rattle.ilp_model.specs.Written.{written, written_run, written_row}
use Rattle.ilp_model.specs.WrittenInstances.{written_exists, written_stand, written_only, written_whole, written_order}
use Rattle.ilp_model.specs.WrittenGroups.{with_places, exists_number, stands_from, held_from, written_stand_of, written_cells, written_cells_of, written_taken, written_held_of, written_held, written_use, written_uses, written_orders, written_pair, written_later, written_each_later, written_stands, written_all_cells, written_all_uses, written_all_orders, written_instances}
use Rattle.ilp_model.specs.Rows.{exists_parts, exists_constant, stand_rows, only_row, whole_row, cell_rows, held_parts, use_row, use_rows, order_row, order_rows, rows_of_pair, rows_from_stand, rows_from_cells, rows_from_use, rows_from_order}
use Rattle.ilp_model.specs.declared.listing.Candidate.{Candidate as Listed}
use Rattle.ilp_model.specs.declared.numbering.Numbering.{Numbering}
use Rattle.ilp_model.proofs.Valuations.{Belongs}
use Rattle.ilp_model.proofs.Places.{flat_map-append}
use Rattle.ilp_model.proofs.Bridging.{turns_same, flat_map_numbers, map_turns, map_numbers, map_flat_map, flat_map_map, flat_map_same, parts_append, one_part, first_part, listed_parts, numbered_parts, run_plus, run_minus, each_row, run_from, run_to}
use Rattle.ilp_model.proofs.InstanceFacts.{IsCandidate, all_known, unit_found, exists_is, stands_is, held_is}

-- a candidate with its place, as it is listed
abbrev pub placed : Candidate → ℕ × Listed
placed one = (one.place, listed one)

places_listed : (n k : ℕ) (ps : List Instance) → with_places n (map listed (candidates_from n k ps)) ≡ map placed (candidates_from n k ps)
places_listed n k [] = refl
places_listed n k (p ∷ ps) = ap (λ l. (n, listed (record { place = n; rank = k; instance = p })) ∷ l) (places_listed (n + 1) (k + bit (is_symbolic p.unit.cells)) ps)

map_same : {A B : Type 0} (f g : A → B) → ((x : A) → f x ≡ g x) → (xs : List A) → map f xs ≡ map g xs
map_same f g h [] = refl
map_same f g h (x ∷ xs) = ap₂ (λ y ys. y ∷ ys) (h x) (map_same f g h xs)

flat_map_filter : {A B : Type 0} (f : A → List B) (test : A → Bool) (xs : List A) → flat_map f (filter test xs) ≡ flat_map (λ x. cond (test x) (f x) []) xs
flat_map_filter f test [] = refl
flat_map_filter {A} {B} f test (x ∷ xs) = go (test x) (flat_map_filter f test xs)
  where
    go : (t : Bool) → flat_map f (filter test xs) ≡ flat_map (λ x. cond (test x) (f x) []) xs → flat_map f (cond t (x ∷ filter test xs) (filter test xs)) ≡ cond t (f x) [] ++ flat_map (λ x. cond (test x) (f x) []) xs
    go true e = ap (λ l. f x ++ l) e
    go false e = e

module _ (units : PlainUnits) (target : Target) (b : ℕ → ℕ) (numbers : Numbering)
    (sound : SoundUnits units) (range : IsInRange target) (are : AreNumbers units target b numbers) where
  abbrev num : Variable → ℕ
  num = variable_number units target b

  abbrev exists_of : Candidate → ℕ
  exists_of one = exists_number numbers.loops one.instance.unit.size one.instance.index

  exists_written : (by : ℤ) (size : Option ℕ) (index : ℕ) → Belongs units b size index → parts_of num (exists_parts by size index) ≡ written_exists size (exists_number numbers.loops size index) by
  exists_written by None index h = refl
  exists_written by (Some symbol) index h = one_part num by (Exists symbol index) ∙ ap (λ n. written n by) (exists_is units target b numbers sound range are symbol index h.1.0)

  stands_run : (one : Candidate) → parts_of num (plus once (Stands one) (numbers_below target.stages)) ≡ written_run (stands_from numbers one.place) numbers.stages (pos 1)
  stands_run one = run_plus num (Stands one) (stands_from numbers one.place) target.stages (stands_is units target b numbers sound range are one) ∙ ap (λ n. written_run (stands_from numbers one.place) n (pos 1)) (sym are.stages)

  stands_back : (one : Candidate) → parts_of num (minus once (Stands one) (numbers_below target.stages)) ≡ written_run (stands_from numbers one.place) numbers.stages (neg_ℤ (pos 1))
  stands_back one = run_minus num (Stands one) (stands_from numbers one.place) target.stages (stands_is units target b numbers sound range are one) ∙ ap (λ n. written_run (stands_from numbers one.place) n (neg_ℤ (pos 1))) (sym are.stages)

  held_back : (one : Candidate) → parts_of num (minus once (Held one) (numbers_below target.stages)) ≡ written_run (held_from numbers one.rank) numbers.stages (neg_ℤ (pos 1))
  held_back one = run_minus num (Held one) (held_from numbers one.rank) target.stages (held_is units target b numbers sound range are one) ∙ ap (λ n. written_run (held_from numbers one.rank) n (neg_ℤ (pos 1))) (sym are.stages)

  -- where an instance stands
  stand_written : (one : Candidate) → IsCandidate units target b one → map (row_of num) (stand_rows target.stages one) ≡ written_stand_of units.list numbers (placed one)
  stand_written one h =
      let size = one.instance.unit.size in
      let index = one.instance.index in
      ap₂ (λ x y. written_row x (pos (exists_constant size)) ∷ written_row y (neg_ℤ (pos (exists_constant size))) ∷ [])
      (parts_append num (exists_parts (neg_ℤ (pos 1)) size index) (plus once (Stands one) (numbers_below target.stages)) ∙ ap₂ (λ x y. x ++ y) (exists_written (neg_ℤ (pos 1)) size index h.belongs) (stands_run one))
      (parts_append num (exists_parts (pos 1) size index) (minus once (Stands one) (numbers_below target.stages)) ∙ ap₂ (λ x y. x ++ y) (exists_written (pos 1) size index h.belongs) (stands_back one))
      ∙ ap (λ (u : PlainUnit). written_stand u.size (exists_number numbers.loops u.size index) (stands_from numbers one.place) numbers.stages) (sym (unit_found units.list one h.has_unit))

  -- its cells
  only_written : (most : ℕ) (one : Candidate) (stage : ℕ) → row_of num (only_row most one stage) ≡ written_only most (stands_from numbers one.place + stage) (held_from numbers one.rank + stage)
  only_written most one stage =
      ap (λ x. written_row x (pos 0))
      (first_part num (neg_ℤ (pos most)) (Stands one stage) (part (pos 1) (Held one stage) ∷ [])
      ∙ ap₂ (λ x y. x ++ y) (ap (λ n. written n (neg_ℤ (pos most))) (stands_is units target b numbers sound range are one stage)) (one_part num (pos 1) (Held one stage) ∙ ap (λ n. written n (pos 1)) (held_is units target b numbers sound range are one stage)))

  whole_written : (most : ℕ) (one : Candidate) (symbol : ℕ) → Belongs units b one.instance.unit.size one.instance.index → row_of num (whole_row target.stages most one symbol) ≡ written_whole symbol one.instance.unit.size (exists_of one) (held_from numbers one.rank) numbers.stages most
  whole_written most one symbol h =
      let size = one.instance.unit.size in
      let index = one.instance.index in
      ap (λ x. written_row x (pos most -ℤ pos (most * exists_constant size)))
      (parts_append num (part (pos 1) (Size symbol) ∷ exists_parts (pos most) size index) (minus once (Held one) (numbers_below target.stages))
      ∙ ap₂ (λ x y. x ++ y) (first_part num (pos 1) (Size symbol) (exists_parts (pos most) size index) ∙ ap (λ x. written symbol (pos 1) ++ x) (exists_written (pos most) size index h)) (held_back one))

  cells_plain : (one : Candidate) (cells : Option Cells) → Belongs units b one.instance.unit.size one.instance.index
      → map (row_of num) (cell_rows target.stages b one cells) ≡ written_cells b cells one.instance.unit.size (exists_of one) (stands_from numbers one.place) (held_from numbers one.rank) numbers.stages
  cells_plain one None h = refl
  cells_plain one (Some (Fixed number)) h = refl
  cells_plain one (Some (Symbol symbol)) h =
      map-append (row_of num) (map (only_row (b symbol) one) (numbers_below target.stages)) (whole_row target.stages (b symbol) one symbol ∷ [])
      ∙ ap₂ (λ x y. x ++ y ∷ []) only (whole_written (b symbol) one symbol h)
    where
      only : map (row_of num) (map (only_row (b symbol) one) (numbers_below target.stages)) ≡ each_turn numbers.stages (λ stage. written_only (b symbol) (stands_from numbers one.place + stage) (held_from numbers one.rank + stage) ∷ [])
      only =
          ap (map (row_of num)) (map_numbers (only_row (b symbol) one) target.stages)
          ∙ map_turns (row_of num) (λ stage. only_row (b symbol) one stage ∷ []) target.stages
          ∙ turns_same (λ stage. row_of num (only_row (b symbol) one stage) ∷ []) (λ stage. written_only (b symbol) (stands_from numbers one.place + stage) (held_from numbers one.rank + stage) ∷ []) target.stages (λ stage l. ap (λ x. x ∷ []) (only_written (b symbol) one stage))
          ∙ ap (λ n. each_turn n (λ stage. written_only (b symbol) (stands_from numbers one.place + stage) (held_from numbers one.rank + stage) ∷ [])) (sym are.stages)

  cells_written : (one : Candidate) → IsCandidate units target b one → map (row_of num) (cell_rows target.stages b one one.instance.unit.cells) ≡ written_cells_of units.list b numbers (placed one)
  cells_written one h =
      cells_plain one one.instance.unit.cells h.belongs
      ∙ ap (λ (u : PlainUnit). written_cells b u.cells u.size (exists_number numbers.loops u.size one.instance.index) (stands_from numbers one.place) (held_from numbers one.rank) numbers.stages) (sym (unit_found units.list one h.has_unit))

  -- what it takes of a stage
  taken_written : (kind : Resource) (stage : ℕ) (one : Candidate) → IsCandidate units target b one → written (num (Stands one stage)) (pos (taken_by kind (λ symbol. 0) one.instance.unit)) ≡ written_taken units.list numbers kind stage (placed one)
  taken_written kind stage one h =
      ap₂ (λ n (u : PlainUnit). written n (pos (taken_by kind (λ symbol. 0) u))) (stands_is units target b numbers sound range are one stage) (sym (unit_found units.list one h.has_unit))

  held_written : (stage : ℕ) (one : Candidate) → IsCandidate units target b one → cond (is_symbolic one.instance.unit.cells) (written (num (Held one stage)) (pos one.instance.unit.cell_width)) [] ≡ written_held_of units.list numbers stage (listed one)
  held_written stage one h =
      ap₂ (λ n (u : PlainUnit). cond (is_symbolic u.cells) (written n (pos u.cell_width)) []) (held_is units target b numbers sound range are one stage) (sym (unit_found units.list one h.has_unit))

  -- two instances
  order_row_written : (first second : Candidate) (from to : ℕ) → to < target.stages
      → row_of num (order_row target.stages first second from to) ≡ written_order (stands_from numbers first.place + from) (target.stages - from) (stands_from numbers second.place) (to + 1)
  order_row_written first second from to h =
      ap (λ x. written_row x (pos 1))
      (parts_append num (plus (λ stage. bit (nat_le from stage)) (Stands first) (numbers_below target.stages)) (plus (λ stage. bit (nat_le stage to)) (Stands second) (numbers_below target.stages))
      ∙ ap₂ (λ x y. x ++ y)
      (numbered_parts num (λ stage. pos (bit (nat_le from stage))) (Stands first) (stands_from numbers first.place) target.stages (stands_is units target b numbers sound range are first) ∙ run_from (stands_from numbers first.place) from target.stages)
      (numbered_parts num (λ stage. pos (bit (nat_le stage to))) (Stands second) (stands_from numbers second.place) target.stages (stands_is units target b numbers sound range are second) ∙ run_to (stands_from numbers second.place) to target.stages h))

  turned : (f : ℕ → _) (g : ℕ → Row) (n : ℕ) → ((t : ℕ) → t < n → row_of num (f t) ≡ g t) → map (row_of num) (map f (numbers_below n)) ≡ each_turn n (λ t. g t ∷ [])
  turned f g n h =
      ap (map (row_of num)) (map_numbers f n)
      ∙ map_turns (row_of num) (λ t. f t ∷ []) n
      ∙ turns_same (λ t. row_of num (f t) ∷ []) (λ t. g t ∷ []) n (λ t l. ap (λ x. x ∷ []) (h t l))

  orders_plain : (first second : Candidate) (relation : Relation) → map (row_of num) (order_rows target.stages first second relation) ≡ written_orders (stands_from numbers first.place) (stands_from numbers second.place) target.stages relation
  orders_plain first second Free = refl
  orders_plain first second NotAfter = turned (λ stage. order_row target.stages first second (stage + 1) stage) (λ stage. written_order (stands_from numbers first.place + (stage + 1)) (target.stages - (stage + 1)) (stands_from numbers second.place) (stage + 1)) (target.stages - 1) (λ stage l. order_row_written first second (stage + 1) stage (omega (arith, l)))
  orders_plain first second Before = turned (λ stage. order_row target.stages first second stage stage) (λ stage. written_order (stands_from numbers first.place + stage) (target.stages - stage) (stands_from numbers second.place) (stage + 1)) target.stages (λ stage l. order_row_written first second stage stage l)

  pair_written : (first second : Candidate) → IsCandidate units target b first → IsCandidate units target b second → map (row_of num) (rows_of_pair target.stages (first, second)) ≡ written_pair units.list numbers (placed first, placed second)
  pair_written first second h k =
      orders_plain first second (order_of first.instance second.instance)
      ∙ ap (λ n. written_orders (stands_from numbers first.place) (stands_from numbers second.place) n (order_of first.instance second.instance)) (sym are.stages)
      ∙ ap₂ (λ (u v : PlainUnit). written_orders (stands_from numbers first.place) (stands_from numbers second.place) numbers.stages (order u v first.instance.index second.instance.index)) (sym (unit_found units.list first h.has_unit)) (sym (unit_found units.list second k.has_unit))

  pairs_written : (ones : List Candidate) → AllByRecursion (IsCandidate units target b) ones → map (row_of num) (flat_map (rows_of_pair target.stages) (each_pair ones)) ≡ written_each_later units.list numbers (map placed ones)
  pairs_written [] h = refl
  pairs_written (one ∷ ones) h =
      ap (map (row_of num)) (flat_map-append (rows_of_pair target.stages) (map (λ later. (one, later)) ones) (each_pair ones))
      ∙ map-append (row_of num) (flat_map (rows_of_pair target.stages) (map (λ later. (one, later)) ones)) (flat_map (rows_of_pair target.stages) (each_pair ones))
      ∙ ap₂ (λ x y. x ++ y) later (pairs_written ones h.1)
    where
      later : map (row_of num) (flat_map (rows_of_pair target.stages) (map (λ later. (one, later)) ones)) ≡ written_later units.list numbers (placed one) (map placed ones)
      later =
          ap (map (row_of num)) (flat_map_map (rows_of_pair target.stages) (λ later. (one, later)) ones)
          ∙ each_row num (λ later. rows_of_pair target.stages (one, later)) (λ later. written_pair units.list numbers (placed one, placed later)) ones (each_more (IsCandidate units target b) (λ later. map (row_of num) (rows_of_pair target.stages (one, later)) ≡ written_pair units.list numbers (placed one, placed later)) (λ later k. pair_written one later h.0 k) ones h.1)
          ∙ sym (flat_map_map (λ second. written_pair units.list numbers (placed one, second)) placed ones)

  -- the groups
  module _ (list : List Listed) (is : list ≡ map listed (candidates units b)) where
    known : AllByRecursion (IsCandidate units target b) (candidates units b)
    known = all_known units target b sound

    places_are : map placed (candidates units b) ≡ with_places 0 list
    places_are = sym (places_listed 0 0 (instances units.list b)) ∙ ap (with_places 0) (sym is)

    grouped : {A : Type 0} (f : Candidate → List A) (gives : ℕ × Listed → List A) → ((one : Candidate) → IsCandidate units target b one → f one ≡ gives (placed one)) → flat_map f (candidates units b) ≡ flat_map gives (with_places 0 list)
    grouped f gives h =
        flat_map_same f (λ one. gives (placed one)) (candidates units b) (each_more (IsCandidate units target b) (λ one. f one ≡ gives (placed one)) h (candidates units b) known)
        ∙ sym (flat_map_map gives placed (candidates units b))
        ∙ ap (flat_map gives) places_are

    stands_written : map (row_of num) (flat_map (stand_rows target.stages) (candidates units b)) ≡ written_stands units.list numbers list
    stands_written = map_flat_map (row_of num) (stand_rows target.stages) (candidates units b) ∙ grouped (λ one. map (row_of num) (stand_rows target.stages one)) (written_stand_of units.list numbers) stand_written

    all_cells_written : map (row_of num) (flat_map (λ one. cell_rows target.stages b one one.instance.unit.cells) (candidates units b)) ≡ written_all_cells units.list b numbers list
    all_cells_written = map_flat_map (row_of num) (λ one. cell_rows target.stages b one one.instance.unit.cells) (candidates units b) ∙ grouped (λ one. map (row_of num) (cell_rows target.stages b one one.instance.unit.cells)) (written_cells_of units.list b numbers) cells_written

    memory_written : (stage : ℕ) → parts_of num (held_parts resource.Memory stage (candidates units b)) ≡ flat_map (written_held_of units.list numbers stage) list
    memory_written stage =
        listed_parts num (λ one. pos one.instance.unit.cell_width) (λ one. Held one stage) (symbolic (candidates units b))
        ∙ flat_map_filter (λ one. written (num (Held one stage)) (pos one.instance.unit.cell_width)) (λ one. is_symbolic one.instance.unit.cells) (candidates units b)
        ∙ flat_map_same (λ one. cond (is_symbolic one.instance.unit.cells) (written (num (Held one stage)) (pos one.instance.unit.cell_width)) []) (λ one. written_held_of units.list numbers stage (listed one)) (candidates units b) (each_more (IsCandidate units target b) (λ one. cond (is_symbolic one.instance.unit.cells) (written (num (Held one stage)) (pos one.instance.unit.cell_width)) [] ≡ written_held_of units.list numbers stage (listed one)) (held_written stage) (candidates units b) known)
        ∙ sym (flat_map_map (written_held_of units.list numbers stage) listed (candidates units b))
        ∙ ap (flat_map (written_held_of units.list numbers stage)) (sym is)

    all_held_written : (kind : Resource) (stage : ℕ) → parts_of num (held_parts kind stage (candidates units b)) ≡ written_held units.list numbers kind stage list
    all_held_written resource.Memory stage = memory_written stage
    all_held_written resource.Stateful stage = refl
    all_held_written resource.Stateless stage = refl
    all_held_written resource.TableBits stage = refl
    all_held_written resource.TernaryBits stage = refl

    use_written : (stage : ℕ) (kind : Resource) → row_of num (use_row target (candidates units b) stage kind) ≡ written_use units.list target numbers list stage kind
    use_written stage kind =
        ap (λ x. written_row x (pos (limit_of kind target)))
        (parts_append num (plus (λ one. taken_by kind (λ symbol. 0) one.instance.unit) (λ one. Stands one stage) (candidates units b)) (held_parts kind stage (candidates units b))
        ∙ ap₂ (λ x y. x ++ y)
        (listed_parts num (λ one. pos (taken_by kind (λ symbol. 0) one.instance.unit)) (λ one. Stands one stage) (candidates units b) ∙ grouped (λ one. written (num (Stands one stage)) (pos (taken_by kind (λ symbol. 0) one.instance.unit))) (written_taken units.list numbers kind stage) (taken_written kind stage))
        (all_held_written kind stage))

    uses_written : map (row_of num) (flat_map (use_rows target (candidates units b)) (numbers_below target.stages)) ≡ written_all_uses units.list target numbers list
    uses_written =
        ap (map (row_of num)) (flat_map_numbers (use_rows target (candidates units b)) target.stages)
        ∙ map_turns (row_of num) (use_rows target (candidates units b)) target.stages
        ∙ turns_same (λ stage. map (row_of num) (use_rows target (candidates units b) stage)) (written_uses units.list target numbers list) target.stages (λ stage l. map_same (λ kind. row_of num (use_row target (candidates units b) stage kind)) (written_use units.list target numbers list stage) (use_written stage) resources)
        ∙ ap (λ n. each_turn n (written_uses units.list target numbers list)) (sym are.stages)

    orders_written : map (row_of num) (flat_map (rows_of_pair target.stages) (each_pair (candidates units b))) ≡ written_all_orders units.list numbers list
    orders_written = pairs_written (candidates units b) known ∙ ap (written_each_later units.list numbers) places_are

    pub instance_rows_written : map (row_of num) (rows_from_stand units target b)
        ≡ written_instances units.list target b numbers list
    instance_rows_written =
        map-append (row_of num) (flat_map (stand_rows target.stages) (candidates units b)) (rows_from_cells units target b)
        ∙ ap₂ (λ x y. x ++ y) stands_written
        (map-append (row_of num) (flat_map (λ one. cell_rows target.stages b one one.instance.unit.cells) (candidates units b)) (rows_from_use units target b)
        ∙ ap₂ (λ x y. x ++ y) all_cells_written
        (map-append (row_of num) (flat_map (use_rows target (candidates units b)) (numbers_below target.stages)) (rows_from_order units target b)
        ∙ ap₂ (λ x y. x ++ y) uses_written orders_written))

    -- so are those of units that are seen as these
    pub rows_of_seen : (each : List PlainUnit) → each ≡ units.list → (before after : List Row)
        → after ≡ before ++ written_instances each target b numbers list → after ≡ before ++ map (row_of num) (rows_from_stand units target b)
    rows_of_seen each e before after h =
        h ∙ ap (λ (us : List PlainUnit). before ++ written_instances us target b numbers list) e ∙ ap (λ x. before ++ x) (sym instance_rows_written)
