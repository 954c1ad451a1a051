-- What is read by numbers is what a point gives.
use Rattle.std.proofs.Common.{◌≡◌, ◌∙◌, ℕ, ℤ, ◌+◌, ◌*◌, ◌<◌, ◌≤◌, ◌^◌, ◌==◌, Bool, true, false, cond, List, [], ◌∷◌, ◌++◌, length, map, get_or, filter, All, Option, Some, None, refl, sym, ap, ap₂, subst, arith}
use Rattle.std.specs.Prelude.{if◌then◌else◌}
use Rattle.std.proofs.lemmas.List.Elements.{All-nil, All-cons, All-head, All-tail}
use Rattle.elastic_ast.specs.declared.flat.At.{At}
use Rattle.elastic_ast.specs.declared.flat.Unit.{Unit as FlatUnit}
use Rattle.elastic_ast.specs.declared.flat.Units.{Units as FlatUnits}
use Rattle.elastic_ast.specs.Units.SeenUnits.{seen_unit, seen_units}
use Rattle.elastic_ast.specs.Meaning.Values.{bit}
use Rattle.elastic_ast.specs.Units.PlainUnits.{PlainUnit, PlainUnits}
use Rattle.elastic_ast.specs.Units.Instances.{Instance, nth_size, pair_of, instances}
use Rattle.target_desc.specs.declared.target.Target.{Target}
use Rattle.size_terms.specs.Rows.{worth}
use Rattle.place_check.specs.OfUnits.{FeasibleUnits}
use Rattle.place_check.specs.Standing.{no_unit, instance_at}
use Rattle.place_check.proofs.KnownLaws.{instances_named}
use Rattle.unit_flow.specs.SoundUnits.{SoundUnits, IsLoopSize}
use Rattle.unroll_bound.specs.BoundAnswers.{AreBoundsWithin, most_at_bounds}
use Rattle.unroll_bound.specs.Counts.{is_symbolic, numbers_below}
use Rattle.unroll_bound.proofs.CountLaws.{instances_counted}
use Rattle.int_program.specs.Points.{IsPoint, value_of}
use Rattle.ilp_model.specs.Candidates.{Candidate, candidates_from, candidates}
use Rattle.ilp_model.specs.ListedCandidates.{listed}
use Rattle.ilp_model.specs.Variables.{Variable, symbol_count, past_keys}
use Rattle.ilp_model.specs.Numbers.{AreNumbers}
use Rattle.ilp_model.specs.IpOf.{ip_of}
use Rattle.ilp_model.specs.PairOf.{value_at, sizes_of, exists_by, last_one, stands_at, placement_by, placement_of}
use Rattle.ilp_model.specs.declared.numbering.Numbering.{Numbering}
use Rattle.ilp_model.proofs.Places.{at_get, at_map, at_number}
use Rattle.ilp_model.proofs.PairsAndPoints.{points_are_pairs}
use Rattle.stage_layout.specs.Reading.{value_of_number, exists_in, stage_from, entry_of, entries_from}

-- the instances at the bounds are few, and each names a unit
listed_length : (place rank : ℕ) (ones : List Instance) → length (map listed (candidates_from place rank ones)) ≡ length ones
listed_length place rank [] = refl
listed_length place rank (one ∷ ones) = omega (arith, listed_length (place + 1) (rank + bit (is_symbolic one.unit.cells)) ones)

pub listed_few : (units : PlainUnits) (target : Target) (bounds : List ℕ) → AreBoundsWithin units target bounds → length (map listed (candidates units (nth_size bounds))) ≤ most_at_bounds
listed_few units target bounds within =
    let all = instances units.list (nth_size bounds) in
    let counted = instances_counted units.list (nth_size bounds) in
    omega (arith, listed_length 0 0 all, counted.all, within.instances)

named_from : (n place rank : ℕ) (ones : List Instance) → All (λ (pair : ℕ × ℕ). pair.0 < n) (map pair_of ones) → All (λ one. one.unit < n) (map listed (candidates_from place rank ones))
named_from n place rank [] h = All-nil (λ one. one.unit < n)
named_from n place rank (one ∷ ones) h =
    let P : ℕ × ℕ → Type 0 = λ pair. pair.0 < n in
    All-cons (λ one. one.unit < n) (listed (record { place = place; rank = rank; instance = one })) (map listed (candidates_from (place + 1) (rank + bit (is_symbolic one.unit.cells)) ones))
    (All-head P (pair_of one) (map pair_of ones) h)
    (named_from n (place + 1) (rank + bit (is_symbolic one.unit.cells)) ones (All-tail P (pair_of one) (map pair_of ones) h))

pub listed_named : (units : PlainUnits) (b : ℕ → ℕ) → All (λ one. one.unit < length units.list) (map listed (candidates units b))
listed_named units b = named_from (length units.list) 0 0 (instances units.list b) (instances_named units.list b).within

-- a size is at most its bound, so it has 64 bits
pub size_small : (units : PlainUnits) (target : Target) (bounds : List ℕ) (point : List ℤ) → SoundUnits units → AreBoundsWithin units target bounds → IsPoint (ip_of units target (nth_size bounds)) point → (symbol : ℕ) → symbol < symbol_count units → value_of_number point symbol < 2 ^ 64
size_small units target bounds point sound within is symbol l =
    let pair = points_are_pairs units target (nth_size bounds) point sound is in
    let read : nth_size (sizes_of units point) symbol ≡ value_of_number point symbol = at_get (sizes_of units point) symbol (value_of_number point symbol) 0 (at_map (value_of_number point) (numbers_below (symbol_count units)) symbol symbol (at_number (symbol_count units) symbol l)) in
    let small = within.small symbol 0 (omega (arith, within.found.dense)) in
    omega (arith, read, small, pair.within symbol)

module _ (units : PlainUnits) (target : Target) (b : ℕ → ℕ) (point : List ℤ) (numbers : Numbering) (are : AreNumbers units target b numbers) where
  abbrev value : Variable → ℕ
  value = value_at units target b point

  -- an instance is there by its variable's number
  exists_read : (size : Option ℕ) (index : ℕ) → IsLoopSize (symbol_count units) size → exists_in point numbers.loops size index ≡ exists_by value size index
  exists_read None index h = refl
  exists_read (Some symbol) index h = ap (λ (n : ℕ). value_of_number point (n + index) == 1) (are.loops symbol h)

  stage_read : (p : Candidate) → stage_from point (numbers.stands + p.place * numbers.stages) numbers.stages ≡ last_one (λ stage. value (Variable.Stands p stage)) target.stages
  stage_read p =
      ap (λ (n : ℕ). stage_from point (n + p.place * numbers.stages) numbers.stages) are.stands
      ∙ ap (λ (m : ℕ). stage_from point (past_keys units b + p.place * m) m) are.stages

  abbrev entry_if : Bool → Candidate → ℕ → List At
  entry_if there p stage = if there then record { unit = p.instance.number; index = p.instance.index; stage = stage } ∷ [] else []

  entry_read : (p : Candidate) → IsLoopSize (symbol_count units) p.instance.unit.size → entry_of point numbers p.instance.unit.size p.place (listed p) ≡ entry_if (exists_by value p.instance.unit.size p.instance.index) p (last_one (λ stage. value (Variable.Stands p stage)) target.stages)
  entry_read p h = ap₂ (λ there stage. entry_if there p stage) (exists_read p.instance.unit.size p.instance.index h) (stage_read p)

  kept : (there : Bool) (p : Candidate) (rest : List Candidate) → entry_if there p (last_one (λ stage. value (Variable.Stands p stage)) target.stages) ++ map (stands_at target.stages value) rest ≡ map (stands_at target.stages value) (cond there (p ∷ rest) rest)
  kept true p rest = refl
  kept false p rest = refl

  abbrev placed : List Candidate → List At
  placed ps = placement_by value target.stages ps

  placed_more : (p : Candidate) (ps : List Candidate) (unit : PlainUnit) → unit ≡ p.instance.unit → IsLoopSize (symbol_count units) p.instance.unit.size → entry_of point numbers unit.size p.place (listed p) ++ placed ps ≡ placed (p ∷ ps)
  placed_more p ps unit e h =
      let there = exists_by value p.instance.unit.size p.instance.index in
      let rest = filter (λ one. exists_by value one.instance.unit.size one.instance.index) ps in
      ap (λ (u : PlainUnit). entry_of point numbers u.size p.place (listed p) ++ placed ps) e
      ∙ ap (λ (l : List At). l ++ placed ps) (entry_read p h)
      ∙ kept there p rest

  read_from : All (λ unit. IsLoopSize (symbol_count units) unit.size) units.list → (place rank : ℕ) (ones : List Instance) → All (λ (pair : ℕ × ℕ). pair.0 < length units.list) (map pair_of ones) → map (instance_at units.list) (map pair_of ones) ≡ ones
      → entries_from point numbers units.list place (map listed (candidates_from place rank ones)) ≡ placed (candidates_from place rank ones)
  read_from sizes place rank [] within named = refl
  read_from sizes place rank (one ∷ ones) within named =
      let P : ℕ × ℕ → Type 0 = λ pair. pair.0 < length units.list in
      let p : Candidate = record { place = place; rank = rank; instance = one } in
      let later = rank + bit (is_symbolic one.unit.cells) in
      let head : instance_at units.list (pair_of one) ≡ one = cc in
      let tail : map (instance_at units.list) (map pair_of ones) ≡ ones = cc in
      let unit : get_or units.list one.number no_unit ≡ one.unit = ap (λ (i : Instance). i.unit) head in
      let size : IsLoopSize (symbol_count units) one.unit.size = subst (λ (u : PlainUnit). IsLoopSize (symbol_count units) u.size) unit (sizes one.number no_unit (All-head P (pair_of one) (map pair_of ones) within)) in
      let rest = read_from sizes (place + 1) later ones (All-tail P (pair_of one) (map pair_of ones) within) tail in
      ap (λ (l : List At). entry_of point numbers (get_or units.list one.number no_unit).size place (listed p) ++ l) rest
      ∙ placed_more p (candidates_from (place + 1) later ones) (get_or units.list one.number no_unit) unit size

-- what is read of all instances at the bounds is the placement of the point
pub placement_read : (units : PlainUnits) (target : Target) (b : ℕ → ℕ) (point : List ℤ) (numbers : Numbering) → SoundUnits units → AreNumbers units target b numbers → entries_from point numbers units.list 0 (map listed (candidates units b)) ≡ placement_of units target b point
placement_read units target b point numbers sound are =
    let named = instances_named units.list b in
    read_from units target b point numbers are sound.sizes 0 0 (instances units.list b) named.within named.named

-- a point's sizes and placement are feasible, and worth its value
pub feasible_read : (units : PlainUnits) (target : Target) (b : ℕ → ℕ) (point : List ℤ) (sizes : List ℕ) (placement : List At) → SoundUnits units → IsPoint (ip_of units target b) point → sizes ≡ sizes_of units point → placement ≡ placement_of units target b point → FeasibleUnits units target sizes placement
feasible_read units target b point sizes placement sound is e f =
    let pair = points_are_pairs units target b point sound is in
    subst (λ (s : List ℕ). FeasibleUnits units target s placement) (sym e) (subst (λ (p : List At). FeasibleUnits units target (sizes_of units point) p) (sym f) pair.feasible)

pub value_read : (units : PlainUnits) (target : Target) (b : ℕ → ℕ) (point : List ℤ) (sizes : List ℕ) → SoundUnits units → IsPoint (ip_of units target b) point → sizes ≡ sizes_of units point → value_of (ip_of units target b) point ≡ worth units.terms sizes
value_read units target b point sizes sound is e = (points_are_pairs units target b point sound is).value ∙ ap (worth units.terms) (sym e)

flat_sizes : (n : ℕ) (units : List FlatUnit) → All (λ unit. IsLoopSize n unit.size) (map seen_unit units) → All (λ unit. IsLoopSize n unit.size) units
flat_sizes n [] h = All-nil (λ unit. IsLoopSize n unit.size)
flat_sizes n (unit ∷ units) h =
    let P : PlainUnit → Type 0 = λ seen. IsLoopSize n seen.size in
    All-cons (λ flat. IsLoopSize n flat.size) unit units (All-head P (seen_unit unit) (map seen_unit units) h) (flat_sizes n units (All-tail P (seen_unit unit) (map seen_unit units) h))

-- the loops of units have numbers
pub sizes_numbered : (units : FlatUnits) (target : Target) (b : ℕ → ℕ) (numbers : Numbering) → SoundUnits (seen_units units) → AreNumbers (seen_units units) target b numbers → All (λ unit. IsLoopSize (length numbers.loops) unit.size) units.list
sizes_numbered units target b numbers sound are = flat_sizes (length numbers.loops) units.list (subst (λ (n : ℕ). All (λ unit. IsLoopSize n unit.size) (map seen_unit units.list)) (sym are.dense) sound.sizes)
