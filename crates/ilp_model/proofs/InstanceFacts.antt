-- What is known of the instances at the bounds and the numbers of their variables.
use Rattle.std.proofs.Common.{◌≡◌, ℕ, zero, suc, pos, ap₂, ◌+◌, ◌-◌, ◌*◌, ◌<◌, true, List, [], ◌∷◌, map, length, get_or, Option, Some, None, refl, sym, ap, ◌∙◌, subst, arith}
use Rattle.std.specs.List.{AllByRecursion}
use Rattle.std.proofs.lemmas.List.{length-map}
use Rattle.elastic_ast.specs.declared.flat.At.{At}
use Rattle.elastic_ast.specs.declared.flat.Cells.{Cells}
use Rattle.elastic_ast.specs.declared.flat.Cells.TheVariants.{Fixed, Symbol}
use Rattle.elastic_ast.specs.Meaning.Values.{bit}
use Rattle.elastic_ast.specs.Units.PlainUnits.{PlainUnit, PlainUnits}
use Rattle.elastic_ast.specs.Units.Instances.{Instance, nth_size, pair_of, instances}
use Rattle.target_desc.specs.declared.target.Target.{Target}
use Rattle.target_desc.specs.InRange.{IsInRange}
use Rattle.dep_graph.specs.Laid.{Placed, laid}
use Rattle.dep_graph.specs.PlacementRules.{named_pair}
use Rattle.place_check.specs.Standing.{no_unit, standing}
use Rattle.place_check.proofs.KnownLaws.{stands_listed, names_listed}
use Rattle.unit_flow.specs.SoundUnits.{SoundUnits, IsLoopSize, IsCellCount}
use Rattle.unroll_bound.specs.Counts.{is_symbolic}
use Rattle.unroll_bound.proofs.Totals.{each_two}
use Rattle.ilp_model.specs.Candidates.{Candidate, candidates_from, candidates}
use Rattle.ilp_model.specs.ListedCandidates.{listed, most_numbers}
use Rattle.ilp_model.specs.Numbers.{AreNumbers}
use Rattle.ilp_model.specs.Variables.{Variable, symbol_count, variables, variable_number, top_of}
use Rattle.ilp_model.specs.Variables.Variable.{Exists, Stands, Held}
use Rattle.ilp_model.specs.WrittenGroups.{listed_unit, stands_from, held_from, FitsExists, FitsCells, FitsNumbers, AllFitNumbers}
use Rattle.ilp_model.specs.declared.listing.Candidate.{Candidate as Listed}
use Rattle.ilp_model.specs.declared.numbering.Numbering.{Numbering}
use Rattle.ilp_model.proofs.Lists.{from_all}
use Rattle.ilp_model.proofs.Sums.{all_unmap}
use Rattle.ilp_model.proofs.Valuations.{Belongs}
use Rattle.ilp_model.proofs.Belonging.{instances_belong, instances_units, all_candidates}
use Rattle.ilp_model.proofs.Rising.{at_short}
use Rattle.ilp_model.proofs.Known.{IsVar, exists_var, stands_vars, held_vars}
use Rattle.ilp_model.proofs.CountLaws.{variables_and_rows_are_counted}

-- an instance has the unit of its number
pub record HasUnit (units : List PlainUnit) (one : Instance) : Type 0 where
  pub number : one.number < length units
  pub unit : one.unit ≡ get_or units one.number no_unit

abbrev at_stage : Instance → At
at_stage one = record { unit = one.number; index = one.index; stage = 0 }

named_same : (ones : List Instance) → map named_pair (map at_stage ones) ≡ map pair_of ones
named_same [] = refl
named_same (one ∷ ones) = ap (λ l. pair_of one ∷ l) (named_same ones)

-- what stands as the placement says has the units of its numbers
from_laid : (units : List PlainUnit) (ones : List Instance) → laid ones (map at_stage ones) ≡ standing units (map at_stage ones) → AllByRecursion (λ one. one.unit ≡ get_or units one.number no_unit) ones
from_laid units [] e = tt
from_laid units (one ∷ ones) e = (ap head e, from_laid units ones (ap tail e))
  where
    head : List Placed → PlainUnit
    head [] = no_unit
    head (p ∷ ps) = p.instance.unit

    tail : List Placed → List Placed
    tail [] = []
    tail (p ∷ ps) = ps

pub instances_have_units : (units : List PlainUnit) (b : ℕ → ℕ) → AllByRecursion (HasUnit units) (instances units b)
instances_have_units units b =
    let same = named_same (instances units b) in
    let placed = map at_stage (instances units b) in
    each_two (λ one. one.number < length units) (λ one. one.unit ≡ get_or units one.number no_unit) (HasUnit units) (λ one h k. record { number = h; unit = k }) (instances units b)
    (all_unmap at_stage (λ at. at.unit < length units) (instances units b) (from_all (λ at. at.unit < length units) placed (names_listed units b placed same)))
    (from_laid units (instances units b) (stands_listed units b placed same))

-- what is known of an instance at the bounds
pub record IsCandidate (units : PlainUnits) (target : Target) (b : ℕ → ℕ) (one : Candidate) : Type 0 where
  pub has_unit : HasUnit units.list one.instance
  pub belongs : Belongs units b one.instance.unit.size one.instance.index
  pub stands : (t : ℕ) → t < target.stages → IsVar units target b (Stands one t)
  pub held : is_symbolic one.instance.unit.cells ≡ true → (t : ℕ) → t < target.stages → IsVar units target b (Held one t)
  pub counts : IsCellCount (symbol_count units) units.terms.ones one.instance.unit.cells

pub all_known : (units : PlainUnits) (target : Target) (b : ℕ → ℕ) → SoundUnits units → AllByRecursion (IsCandidate units target b) (candidates units b)
all_known units target b sound =
    let sizes = from_all (λ u. IsLoopSize (symbol_count units) u.size) units.list sound.sizes in
    let counts = from_all (λ u. IsCellCount (symbol_count units) units.terms.ones u.cells) units.list sound.counts in
    let has = all_candidates (HasUnit units.list) 0 0 (instances units.list b) (instances_have_units units.list b) in
    let belong = all_candidates (λ p. Belongs units b p.unit.size p.index) 0 0 (instances units.list b) (instances_belong units b sizes) in
    let counted = all_candidates (λ p. IsCellCount (symbol_count units) units.terms.ones p.unit.cells) 0 0 (instances units.list b) (instances_units (λ u. IsCellCount (symbol_count units) units.terms.ones u.cells) units b counts) in
    let one = each_two (λ p. HasUnit units.list p.instance) (λ p. Belongs units b p.instance.unit.size p.instance.index) (λ p. HasUnit units.list p.instance × Belongs units b p.instance.unit.size p.instance.index) (λ p x y. (x, y)) (candidates units b) has belong in
    let two = each_two (λ p. (t : ℕ) → t < target.stages → IsVar units target b (Stands p t)) (λ p. is_symbolic p.instance.unit.cells ≡ true → (t : ℕ) → t < target.stages → IsVar units target b (Held p t)) (λ p. ((t : ℕ) → t < target.stages → IsVar units target b (Stands p t)) × (is_symbolic p.instance.unit.cells ≡ true → (t : ℕ) → t < target.stages → IsVar units target b (Held p t))) (λ p x y. (x, y)) (candidates units b) (stands_vars units target b) (held_vars units target b) in
    let both = each_two (λ p. HasUnit units.list p.instance × Belongs units b p.instance.unit.size p.instance.index) (λ p. ((t : ℕ) → t < target.stages → IsVar units target b (Stands p t)) × (is_symbolic p.instance.unit.cells ≡ true → (t : ℕ) → t < target.stages → IsVar units target b (Held p t))) (λ p. (HasUnit units.list p.instance × Belongs units b p.instance.unit.size p.instance.index) × (((t : ℕ) → t < target.stages → IsVar units target b (Stands p t)) × (is_symbolic p.instance.unit.cells ≡ true → (t : ℕ) → t < target.stages → IsVar units target b (Held p t)))) (λ p x y. (x, y)) (candidates units b) one two in
    each_two (λ p. (HasUnit units.list p.instance × Belongs units b p.instance.unit.size p.instance.index) × (((t : ℕ) → t < target.stages → IsVar units target b (Stands p t)) × (is_symbolic p.instance.unit.cells ≡ true → (t : ℕ) → t < target.stages → IsVar units target b (Held p t)))) (λ p. IsCellCount (symbol_count units) units.terms.ones p.instance.unit.cells) (IsCandidate units target b) (λ p x y. record { has_unit = x.0.0; belongs = x.0.1; stands = x.1.0; held = x.1.1; counts = y }) (candidates units b) both counted

-- a unit that is found by its number
pub unit_found : (units : List PlainUnit) (one : Candidate) → HasUnit units one.instance → listed_unit units (listed one) ≡ one.instance.unit
unit_found units one has = sym has.unit

-- the candidate that is listed at a place
at_listed : (P : Candidate → Type 0) (n k : ℕ) (ps : List Instance) → AllByRecursion P (candidates_from n k ps) → (i : ℕ) (d : Listed) → i < length (map listed (candidates_from n k ps))
    → (c : Candidate) × P c × (c.place ≡ n + i) × (get_or (map listed (candidates_from n k ps)) i d ≡ listed c)
at_listed P n k [] h i d l = absurd (omega (arith, l))
at_listed P n k (p ∷ ps) h zero d l = (record { place = n; rank = k; instance = p }, h.0, omega arith, refl)
at_listed P n k (p ∷ ps) h (suc i) d l =
    let rest = at_listed P (n + 1) (k + bit (is_symbolic p.unit.cells)) ps h.1 i d (omega (arith, l)) in
    let place = rest.2 in (rest.0, rest.1, omega (arith, place), rest.3)

module _ (units : PlainUnits) (target : Target) (b : ℕ → ℕ) (numbers : Numbering)
    (sound : SoundUnits units) (range : IsInRange target) (are : AreNumbers units target b numbers) where
  -- the number of a variable is below the most variables
  below : (v : Variable) → IsVar units target b v → variable_number units target b v < 100000
  below v h =
      let counted = (variables_and_rows_are_counted units target b sound).variables in
      let short = at_short (variables units target b) (variable_number units target b v) v h.0 in
      let long = length-map (variables units target b) (λ v. pos (top_of b v)) in
      let few = are.few in
      omega (arith, counted, short, long, few)

  -- the numbers of the variables, by those that the program keeps
  pub exists_is : (symbol index : ℕ) → symbol < symbol_count units → variable_number units target b (Exists symbol index) ≡ nth_size numbers.loops symbol + index
  exists_is symbol index h = ap (λ n. n + index) (sym (are.loops symbol h))

  pub stands_is : (one : Candidate) (stage : ℕ) → variable_number units target b (Stands one stage) ≡ stands_from numbers one.place + stage
  stands_is one stage = ap₂ (λ n m. n + one.place * m + stage) (sym are.stands) (sym are.stages)

  pub held_is : (one : Candidate) (stage : ℕ) → variable_number units target b (Held one stage) ≡ held_from numbers one.rank + stage
  held_is one stage = ap₂ (λ n m. n + one.rank * m + stage) (sym are.held) (sym are.stages)

  -- they have 32 bits
  last : target.stages - 1 < target.stages
  last = let h = range.stages.0 in omega (arith, h)

  fits_exists : (size : Option ℕ) (index : ℕ) → Belongs units b size index → FitsExists numbers.loops size index
  fits_exists None index h = tt
  fits_exists (Some symbol) index h =
      let low = below (Exists symbol index) (exists_var units target b symbol index h.1 h.0) in
      let is = exists_is symbol index h.1.0 in
      let dense = are.dense in
      let here = h.1.0 in (omega (arith, here, dense), omega (arith, low, is))

  fits_stands : (one : Candidate) → IsCandidate units target b one → stands_from numbers one.place + numbers.stages < most_numbers
  fits_stands one h =
      let low = below (Stands one (target.stages - 1)) (h.stands (target.stages - 1) last) in
      let is = stands_is one (target.stages - 1) in
      let same = are.stages in
      let few = range.stages in
      omega (arith, low, is, same, few.0, few.1)

  fits_cells : (one : Candidate) → IsCandidate units target b one → FitsCells (length numbers.loops) one.instance.unit.cells (held_from numbers one.rank + numbers.stages)
  fits_cells one h = go one.instance.unit.cells h.counts h.held
    where
      go : (cells : Option Cells) → IsCellCount (symbol_count units) units.terms.ones cells → (is_symbolic cells ≡ true → (t : ℕ) → t < target.stages → IsVar units target b (Held one t)) → FitsCells (length numbers.loops) cells (held_from numbers one.rank + numbers.stages)
      go None c v = tt
      go (Some (Fixed number)) c v = tt
      go (Some (Symbol symbol)) c v =
          let low = below (Held one (target.stages - 1)) (v refl (target.stages - 1) last) in
          let is = held_is one (target.stages - 1) in
          let same = are.stages in
          let few = range.stages in
          let dense = are.dense in
          let here = c.0 in (omega (arith, here, dense), omega (arith, low, is, same, few.0, few.1))

  pub fits_numbers : (one : Candidate) → IsCandidate units target b one → FitsNumbers units.list numbers one.place (listed one)
  fits_numbers one h =
      let found = unit_found units.list one h.has_unit in
      record {
        unit = h.has_unit.number;
        exists = subst (λ (u : PlainUnit). FitsExists numbers.loops u.size one.instance.index) (sym found) (fits_exists one.instance.unit.size one.instance.index h.belongs);
        stands = fits_stands one h;
        held = subst (λ (u : PlainUnit). FitsCells (length numbers.loops) u.cells (held_from numbers one.rank + numbers.stages)) (sym found) (fits_cells one h);
      }

  pub all_fit : (list : List Listed) → list ≡ map listed (candidates units b) → AllFitNumbers units.list numbers list
  all_fit list e place none short =
      let same = ap (λ (xs : List Listed). length xs) e in
      let here = at_listed (IsCandidate units target b) 0 0 (instances units.list b) (all_known units target b sound) place none (omega (arith, short, same)) in
      let at : here.0.place ≡ place = (let q = here.2 in omega (arith, q)) in
      let one_is : get_or list place none ≡ listed here.0 = ap (λ (xs : List Listed). get_or xs place none) e ∙ here.3 in
      subst (λ (n : ℕ). FitsNumbers units.list numbers n (get_or list place none)) at
      (subst (λ (w : Listed). FitsNumbers units.list numbers here.0.place w) (sym one_is) (fits_numbers here.0 here.1))

  -- so do those of units that are seen as these
  pub all_fit_of : (list : List Listed) → list ≡ map listed (candidates units b) → (each : List PlainUnit) → each ≡ units.list → AllFitNumbers each numbers list
  all_fit_of list e each same = subst (λ (us : List PlainUnit). AllFitNumbers us numbers list) (sym same) (all_fit list e)
