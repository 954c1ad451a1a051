-- The instances of units, loop by loop.
use Rattle.std.proofs.Common.{◌≡◌, ◌∙◌, ℕ, zero, suc, ◌+◌, ◌<◌, ◌≤◌, Bool, true, false, ◌&&◌, List, [], ◌∷◌, ◌++◌, map, drop, length, get_or, append_assoc, refl, sym, ap, arith, Option, Some, None, Result, Ok, Err}
use Rattle.std.specs.Prelude.{◌-◌}
use Rattle.std.specs.Prelude.{if◌then◌else◌}
use Rattle.std.proofs.Math.Seq.{drop-nil}
use Rattle.std.proofs.lemmas.List.{drop_more, drop-map, map-append, append-nil, length-map}
use Rattle.elastic_ast.specs.declared.flat.At.{At}
use Rattle.elastic_ast.specs.declared.flat.Unit.{Unit as FlatUnit}
use Rattle.elastic_ast.specs.Units.PlainUnits.{PlainUnit}
use Rattle.elastic_ast.specs.Units.SeenUnits.{seen_unit}
use Rattle.elastic_ast.specs.Units.Instances.{Group, same_number, joins, new_group, with_unit, groups_from, groups, at_index, each_turn, group_instances, all_instances, pair_of}
use Rattle.dep_graph.specs.PlacementRules.{named_pair}
use Rattle.place_check.specs.FirstFault.{first_difference}
use Rattle.place_check.specs.Walking.{one_turn, turns_of, joined, difference_after, Walks}
use Rattle.place_check.proofs.WalkLaws.{walks_both, walks_stopped, past_end, step_named}

turns_same : {A : Type 0} (n : ℕ) (f g : ℕ → List A) → ((i : ℕ) → f i ≡ g i) → each_turn n f ≡ each_turn n g
turns_same zero f g h = refl
turns_same (suc n) f g h = ap (λ z. z ++ f n) (turns_same n f g h) ∙ ap (λ z. each_turn n g ++ z) (h n)

turns_map : {A B : Type 0} (h : A → B) (n : ℕ) (f : ℕ → List A) → map h (each_turn n f) ≡ each_turn n (λ i. map h (f i))
turns_map h zero f = refl
turns_map h (suc n) f = map-append h (each_turn n f) (f n) ∙ ap (λ z. z ++ map h (f n)) (turns_map h n f)

-- the first turns stand in front of all
turns_front : {A : Type 0} (f : ℕ → List A) (k extra n : ℕ) → n ≡ k + extra → (rest : List A) × (each_turn n f ≡ each_turn k f ++ rest)
turns_front f k zero n e = ([], ap (λ z. each_turn z f) (let same : n ≡ k = omega (arith, e) in same) ∙ sym (append-nil (each_turn k f)))
turns_front f k (suc extra) zero e = absurd (omega (arith, e))
turns_front f k (suc extra) (suc n) e =
    let front = turns_front f k extra n (omega (arith, e)) in
    (front.0 ++ f n, ap (λ z. z ++ f n) front.1 ∙ append_assoc (each_turn k f) front.0 (f n))

-- a walk that stops within a turn stops within all turns
pub turns_stop : (placement : List At) (place next stop : ℕ) (f : ℕ → List (ℕ × ℕ)) (k n : ℕ) → k < n → Walks placement place (each_turn k f) (Ok next) → Walks placement next (f k) (Err stop) → Walks placement place (each_turn n f) (Err stop)
turns_stop placement place next stop f k n h w v =
    let front = turns_front f (suc k) (n - suc k) n (omega (arith, h)) in
    rw front.1 (walks_stopped placement place stop (each_turn k f ++ f k) front.0 (walks_both placement place next (each_turn k f) (f k) (Err stop) w v))

abbrev pub pairs_from : (ℕ → ℕ) → ℕ → List PlainUnit → List (ℕ × ℕ)
pairs_from sizes number units = map pair_of (all_instances sizes (groups number units))

-- units have the numbers from one on
abbrev HaveNumbers : List (ℕ × PlainUnit) → ℕ → ℕ → Type 0
HaveNumbers units first count = (index : ℕ) → map pair_of (at_index units index) ≡ one_turn first count index

group_pairs : (sizes : ℕ → ℕ) (size : Option ℕ) (units : List (ℕ × PlainUnit)) (first count : ℕ) → HaveNumbers units first count → map pair_of (group_instances sizes size units) ≡ each_turn (turns_of sizes size) (one_turn first count)
group_pairs sizes None units first count h = h 0
group_pairs sizes (Some symbol) units first count h = turns_map pair_of (sizes symbol) (at_index units) ∙ turns_same (sizes symbol) (λ i. map pair_of (at_index units i)) (one_turn first count) h

more_numbers : (units : List (ℕ × PlainUnit)) (first count number : ℕ) (unit : PlainUnit) → HaveNumbers units first count → number ≡ first + count → HaveNumbers (units ++ (number, unit) ∷ []) first (count + 1)
more_numbers units first count number unit h e index =
    ap (map pair_of) (map-append (λ (one : ℕ × PlainUnit). record { number = one.0; index = index; unit = one.1 }) units ((number, unit) ∷ []))
    ∙ map-append pair_of (at_index units index) (at_index ((number, unit) ∷ []) index)
    ∙ ap (λ z. z ++ (number, index) ∷ []) (h index)
    ∙ ap (λ n. one_turn first count index ++ (n, index) ∷ []) e
    ∙ ap (λ n. one_turn first n index) (let plus : suc count ≡ count + 1 = omega arith in plus)

module _ (sizes : ℕ → ℕ) where
  abbrev Split : Group → ℕ → ℕ → List PlainUnit → ℕ → List (ℕ × ℕ)
  Split group first count units number = each_turn (turns_of sizes group.size) (one_turn first count) ++ pairs_from sizes number units

  open_group : (group : Group) (first count number : ℕ) (units : List PlainUnit) → HaveNumbers group.units first count → number ≡ first + count
      → map pair_of (all_instances sizes (groups_from group number units))
      ≡ Split group first (count + joined group.loop_no group.size units) (drop (joined group.loop_no group.size units) units) (number + joined group.loop_no group.size units)
  open_group group first count number [] h e =
      ap (map pair_of) (append-nil (group_instances sizes group.size group.units)) ∙ group_pairs sizes group.size group.units first count h
      ∙ sym (append-nil (each_turn (turns_of sizes group.size) (one_turn first count)))
      ∙ ap (λ n. each_turn (turns_of sizes group.size) (one_turn first n) ++ []) (let same : count ≡ count + 0 = omega arith in same)
  open_group group first count number (unit ∷ units) h e =
      by (joins unit group) (open_group (with_unit group number unit) first (count + 1) (number + 1) units (more_numbers group.units first count number unit h e) (omega (arith, e)))
    where
      by : (same : Bool)
          → map pair_of (all_instances sizes (groups_from (with_unit group number unit) (number + 1) units))
          ≡ Split group first (count + 1 + joined group.loop_no group.size units) (drop (joined group.loop_no group.size units) units) (number + 1 + joined group.loop_no group.size units)
          → map pair_of (all_instances sizes (if same then groups_from (with_unit group number unit) (number + 1) units else group ∷ groups_from (new_group number unit) (number + 1) units))
          ≡ Split group first (count + (if same then suc (joined group.loop_no group.size units) else 0)) (drop (if same then suc (joined group.loop_no group.size units) else 0) (unit ∷ units)) (number + (if same then suc (joined group.loop_no group.size units) else 0))
      by true joined_more =
          joined_more
          ∙ ap (λ n. Split group first n (drop (joined group.loop_no group.size units) units) (number + 1 + joined group.loop_no group.size units)) (let same : count + 1 + joined group.loop_no group.size units ≡ count + suc (joined group.loop_no group.size units) = omega arith in same)
          ∙ ap (λ n. Split group first (count + suc (joined group.loop_no group.size units)) (drop (joined group.loop_no group.size units) units) n) (let same : number + 1 + joined group.loop_no group.size units ≡ number + suc (joined group.loop_no group.size units) = omega arith in same)
      by false joined_more =
          map-append pair_of (group_instances sizes group.size group.units) (all_instances sizes (groups number (unit ∷ units)))
          ∙ ap (λ z. z ++ pairs_from sizes number (unit ∷ units)) (group_pairs sizes group.size group.units first count h)
          ∙ ap (λ n. Split group first n (unit ∷ units) number) (let same : count ≡ count + 0 = omega arith in same)
          ∙ ap (λ n. Split group first (count + 0) (unit ∷ units) n) (let same : number ≡ number + 0 = omega arith in same)

drop_both : {A : Type 0} (j k : ℕ) (xs : List A) → drop k (drop j xs) ≡ drop (j + k) xs
drop_both zero k xs = ap (λ n. drop n xs) (let plus : k ≡ 0 + k = omega arith in plus)
drop_both (suc j) k (x ∷ xs) = drop_both j k xs ∙ ap (λ n. drop n (x ∷ xs)) (let plus : suc (j + k) ≡ suc j + k = omega arith in plus)
drop_both (suc j) k [] = drop-nil k ∙ sym (drop-nil (suc j + k))

seen_drop : (units : List FlatUnit) (i : ℕ) (unit : FlatUnit) → i < length units → unit ≡ get_or units i unit → drop i (map seen_unit units) ≡ seen_unit unit ∷ drop (i + 1) (map seen_unit units)
seen_drop units i unit h e = drop-map seen_unit i units ∙ ap (map seen_unit) (drop_more units i unit h ∙ ap (λ z. z ∷ drop (i + 1) units) (sym e)) ∙ ap (λ z. seen_unit unit ∷ z) (sym (drop-map seen_unit (i + 1) units))

module _ (sizes : ℕ → ℕ) (units : List FlatUnit) (first : ℕ) (unit : FlatUnit) (h : first < length units) (e : unit ≡ get_or units first unit) where
  abbrev behind : List PlainUnit
  behind = drop (first + 1) (map seen_unit units)

  -- the instances from a unit on are those of its loop, and then the others
  pub loop_first : (count : ℕ) → count ≡ joined unit.loop_no unit.size behind
      → pairs_from sizes first (drop first (map seen_unit units)) ≡ each_turn (turns_of sizes unit.size) (one_turn first (1 + count)) ++ pairs_from sizes (first + (1 + count)) (drop (first + (1 + count)) (map seen_unit units))
  loop_first count same =
      ap (pairs_from sizes first) (seen_drop units first unit h e)
      ∙ open_group sizes (new_group first (seen_unit unit)) first 1 (first + 1) behind (λ index. ap (λ n. (n, index) ∷ []) (let plus : first ≡ first + 0 = omega arith in plus)) refl
      ∙ ap (λ n. each_turn (turns_of sizes unit.size) (one_turn first (1 + n)) ++ pairs_from sizes (first + 1 + n) (drop n behind)) (sym same)
      ∙ ap (λ z. each_turn (turns_of sizes unit.size) (one_turn first (1 + count)) ++ pairs_from sizes (first + 1 + count) z) (drop_both (first + 1) count (map seen_unit units))
      ∙ ap (λ n. each_turn (turns_of sizes unit.size) (one_turn first (1 + count)) ++ pairs_from sizes n (drop n (map seen_unit units))) (let plus : first + 1 + count ≡ first + (1 + count) = omega arith in plus)

-- one more unit that stands in the loop, and one that doesn't
module _ (loop_no size : Option ℕ) (units : List FlatUnit) (i : ℕ) (unit : FlatUnit) (h : i < length units) (e : unit ≡ get_or units i unit) where
  joined_by : (same : Bool) → (same_number unit.loop_no loop_no && same_number unit.size size) ≡ same → joined loop_no size (drop i (map seen_unit units)) ≡ (if same then suc (joined loop_no size (drop (i + 1) (map seen_unit units))) else 0)
  joined_by same is = ap (joined loop_no size) (seen_drop units i unit h e) ∙ ap (λ (b : Bool). if b then suc (joined loop_no size (drop (i + 1) (map seen_unit units))) else 0) is

  pub joined_one : (same_number unit.loop_no loop_no && same_number unit.size size) ≡ true → joined loop_no size (drop i (map seen_unit units)) ≡ suc (joined loop_no size (drop (i + 1) (map seen_unit units)))
  joined_one = joined_by true

  pub joined_none : (same_number unit.loop_no loop_no && same_number unit.size size) ≡ false → joined loop_no size (drop i (map seen_unit units)) ≡ 0
  joined_none = joined_by false

-- a walk along a loop leaves the difference that there is behind it
pub walk_loop : (sizes : ℕ → ℕ) (units : List FlatUnit) (placement : List At) (place first : ℕ) (unit : FlatUnit) (count turns : ℕ) (result : Result ℕ ℕ) (whole : Option ℕ)
    → first < length units → unit ≡ get_or units first unit → count ≡ joined unit.loop_no unit.size (drop (first + 1) (map seen_unit units)) → turns ≡ turns_of sizes unit.size
    → Walks placement place (each_turn turns (one_turn first (1 + count))) result
    → first_difference place (map named_pair (drop place placement)) (pairs_from sizes first (drop first (map seen_unit units))) ≡ whole
    → difference_after placement (pairs_from sizes (first + (1 + count)) (drop (first + (1 + count)) (map seen_unit units))) result ≡ whole
walk_loop sizes units placement place first unit count turns result whole h e same often walks rest =
    sym (walks.meets (pairs_from sizes (first + (1 + count)) (drop (first + (1 + count)) (map seen_unit units))))
    ∙ ap (λ (n : ℕ). first_difference place (map named_pair (drop place placement)) (each_turn n (one_turn first (1 + count)) ++ pairs_from sizes (first + (1 + count)) (drop (first + (1 + count)) (map seen_unit units)))) often
    ∙ ap (first_difference place (map named_pair (drop place placement))) (sym (loop_first sizes units first unit h e count same))
    ∙ rest

-- the instances of a loop are listed behind those before it
pub list_loop : (sizes : ℕ → ℕ) (units : List FlatUnit) (old new whole : List (ℕ × ℕ)) (first : ℕ) (unit : FlatUnit) (count turns : ℕ)
    → first < length units → unit ≡ get_or units first unit → count ≡ joined unit.loop_no unit.size (drop (first + 1) (map seen_unit units)) → turns ≡ turns_of sizes unit.size
    → new ≡ old ++ each_turn turns (one_turn first (1 + count))
    → old ++ pairs_from sizes first (drop first (map seen_unit units)) ≡ whole
    → new ++ pairs_from sizes (first + (1 + count)) (drop (first + (1 + count)) (map seen_unit units)) ≡ whole
list_loop sizes units old new whole first unit count turns h e same often listed rest =
    let behind : List (ℕ × ℕ) = pairs_from sizes (first + (1 + count)) (drop (first + (1 + count)) (map seen_unit units)) in
    ap (λ z. z ++ behind) listed
    ∙ ap (λ (n : ℕ). (old ++ each_turn n (one_turn first (1 + count))) ++ behind) often
    ∙ append_assoc old (each_turn (turns_of sizes unit.size) (one_turn first (1 + count))) behind
    ∙ ap (λ z. old ++ z) (sym (loop_first sizes units first unit h e count same))
    ∙ rest

pub list_end : (sizes : ℕ → ℕ) (units : List FlatUnit) (list whole : List (ℕ × ℕ)) (first : ℕ) → length units ≤ first → list ++ pairs_from sizes first (drop first (map seen_unit units)) ≡ whole → list ≡ whole
list_end sizes units list whole first end rest =
    sym (append-nil list) ∙ ap (λ z. list ++ pairs_from sizes first z) (sym (past_end (map seen_unit units) first (let h = length-map units seen_unit in omega (arith, h, end)))) ∙ rest

module _ (sizes : ℕ → ℕ) (units : List FlatUnit) (placement : List At) (place first : ℕ) (whole : Option ℕ) (end : length units ≤ first)
    (rest : first_difference place (map named_pair (drop place placement)) (pairs_from sizes first (drop first (map seen_unit units))) ≡ whole) where
  none_left : first_difference place (map named_pair (drop place placement)) [] ≡ whole
  none_left = sym (ap (λ z. first_difference place (map named_pair (drop place placement)) (pairs_from sizes first z)) (past_end (map seen_unit units) first (let h = length-map units seen_unit in omega (arith, h, end)))) ∙ rest

  pub ends_late : place < length placement → Some place ≡ whole
  ends_late h = sym (ap (λ z. first_difference place z []) (step_named placement place h)) ∙ none_left

  pub ends_even : length placement ≤ place → None ≡ whole
  ends_even h = sym (ap (λ z. first_difference place (map named_pair z) []) (past_end placement place h)) ∙ none_left
