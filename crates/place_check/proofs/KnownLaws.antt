-- Each instance has the unit of its number, so a placement that lists the instances stands as its numbers say.
use Rattle.std.proofs.Common.{◌≡◌, ◌∙◌, ℕ, zero, suc, ◌+◌, ◌<◌, Bool, true, false, List, [], ◌∷◌, ◌++◌, map, drop, length, get_or, refl, sym, ap, arith, Option, Some, None}
use Rattle.std.specs.Prelude.{if◌then◌else◌}
use Rattle.std.specs.List.{AllByRecursion}
use Rattle.std.proofs.lemmas.List.Elements.{All-cons, All-nil}
use Rattle.elastic_ast.specs.declared.flat.At.{At}
use Rattle.elastic_ast.specs.Units.PlainUnits.{PlainUnit}
use Rattle.elastic_ast.specs.Units.Instances.{Instance, Group, joins, new_group, with_unit, groups_from, at_index, each_turn, group_instances, all_instances, pair_of, instances}
use Rattle.dep_graph.specs.Laid.{Placed, laid}
use Rattle.dep_graph.specs.PlacementRules.{named_pair, ListsInstances}
use Rattle.place_check.specs.Standing.{no_unit, instance_at, placed_at, standing, AreNamed, NamesUnits, ListedStands, InstancesAreNamed}

both_all : {A : Type 0} (P : A → Type 0) (xs ys : List A) → AllByRecursion P xs → AllByRecursion P ys → AllByRecursion P (xs ++ ys)
both_all P [] ys h g = g
both_all P (x ∷ xs) ys h g = (h.0, both_all P xs ys h.1 g)

front : {A : Type 0} (xs : List A) (number : ℕ) (d u : A) (us : List A) → u ∷ us ≡ drop number xs → (number < length xs) × ((u ≡ get_or xs number d) × (us ≡ drop (number + 1) xs))
front [] zero d u us e = absurd (cc)
front [] (suc n) d u us e = absurd (cc)
front (x ∷ xs) zero d u us e = (omega arith, (cc, cc))
front (x ∷ xs) (suc n) d u us e = let rest = front xs n d u us e in (omega (arith, rest.0), (rest.1.0, rest.1.1 ∙ ap (λ (k : ℕ). drop k (x ∷ xs)) (let plus : suc (n + 1) ≡ suc n + 1 = omega arith in plus)))

module _ (units : List PlainUnit) where
  record Knows (one : Instance) : Type 0 where
    number : one.number < length units
    unit : one.unit ≡ get_or units one.number no_unit

  abbrev Numbered : ℕ × PlainUnit → Type 0
  Numbered pair = (pair.0 < length units) × (pair.1 ≡ get_or units pair.0 no_unit)

  at_known : (pairs : List (ℕ × PlainUnit)) (index : ℕ) → AllByRecursion Numbered pairs → AllByRecursion Knows (at_index pairs index)
  at_known [] index h = tt
  at_known (pair ∷ pairs) index h = (record { number = h.0.0; unit = h.0.1 }, at_known pairs index h.1)

  turns_known : (n : ℕ) (f : ℕ → List Instance) → ((i : ℕ) → AllByRecursion Knows (f i)) → AllByRecursion Knows (each_turn n f)
  turns_known zero f h = tt
  turns_known (suc n) f h = both_all Knows (each_turn n f) (f n) (turns_known n f h) (h n)

  group_known : (sizes : ℕ → ℕ) (size : Option ℕ) (pairs : List (ℕ × PlainUnit)) → AllByRecursion Numbered pairs → AllByRecursion Knows (group_instances sizes size pairs)
  group_known sizes None pairs h = at_known pairs 0 h
  group_known sizes (Some symbol) pairs h = turns_known (sizes symbol) (at_index pairs) (λ i. at_known pairs i h)

  open_known : (sizes : ℕ → ℕ) (group : Group) (number : ℕ) (rest : List PlainUnit) → AllByRecursion Numbered group.units → rest ≡ drop number units → AllByRecursion Knows (all_instances sizes (groups_from group number rest))
  open_known sizes group number [] h e = both_all Knows (group_instances sizes group.size group.units) [] (group_known sizes group.size group.units h) tt
  open_known sizes group number (unit ∷ rest) h e =
      let here = front units number no_unit unit rest e in
      by (joins unit group)
      (open_known sizes (with_unit group number unit) (number + 1) rest (both_all Numbered group.units ((number, unit) ∷ []) h ((here.0, here.1.0), tt)) here.1.1)
      (open_known sizes (new_group number unit) (number + 1) rest ((here.0, here.1.0), tt) here.1.1)
    where
      by : (same : Bool) → AllByRecursion Knows (all_instances sizes (groups_from (with_unit group number unit) (number + 1) rest)) → AllByRecursion Knows (all_instances sizes (groups_from (new_group number unit) (number + 1) rest))
          → AllByRecursion Knows (all_instances sizes (if same then groups_from (with_unit group number unit) (number + 1) rest else group ∷ groups_from (new_group number unit) (number + 1) rest))
      by true one other = one
      by false one other = both_all Knows (group_instances sizes group.size group.units) (all_instances sizes (groups_from (new_group number unit) (number + 1) rest)) (group_known sizes group.size group.units h) other

  whole_known : (sizes : ℕ → ℕ) (all : List PlainUnit) → all ≡ units → AllByRecursion Knows (instances all sizes)
  whole_known sizes [] e = tt
  whole_known sizes (unit ∷ rest) e =
      let here = front units 0 no_unit unit rest e in
      open_known sizes (new_group 0 unit) 1 rest ((here.0, here.1.0), tt) here.1.1

  heads : (one other : ℕ × ℕ) (ones others : List (ℕ × ℕ)) → one ∷ ones ≡ other ∷ others → (one ≡ other) × (ones ≡ others)
  heads one other ones others e = (cc, cc)

  head_stands : (one : Instance) (at : At) → Knows one → named_pair at ≡ pair_of one → record { instance = one; stage = at.stage } ≡ placed_at units at
  head_stands one at known e =
      let number : at.unit ≡ one.number = ap (λ (p : ℕ × ℕ). p.0) e in
      let index : at.index ≡ one.index = ap (λ (p : ℕ × ℕ). p.1) e in
      let unit : one.unit ≡ get_or units at.unit no_unit = known.unit ∙ ap (λ (n : ℕ). get_or units n no_unit) (sym number) in
      ap (λ (n : ℕ). record { instance = record { number = n; index = one.index; unit = one.unit }; stage = at.stage }) (sym number)
      ∙ ap (λ (i : ℕ). record { instance = record { number = at.unit; index = i; unit = one.unit }; stage = at.stage }) (sym index)
      ∙ ap (λ (u : PlainUnit). record { instance = record { number = at.unit; index = at.index; unit = u }; stage = at.stage }) unit

  both_stand : (ones : List Instance) (placement : List At) → AllByRecursion Knows ones → map named_pair placement ≡ map pair_of ones → (laid ones placement ≡ standing units placement) × NamesUnits units placement
  both_stand [] [] known e = (refl, All-nil (λ (at : At). at.unit < length units))
  both_stand [] (at ∷ placement) known e = absurd (cc)
  both_stand (one ∷ ones) [] known e = absurd (cc)
  both_stand (one ∷ ones) (at ∷ placement) known e =
      let parts = heads (named_pair at) (pair_of one) (map named_pair placement) (map pair_of ones) e in
      let rest = both_stand ones placement known.1 parts.1 in
      let number : at.unit ≡ one.number = ap (λ (p : ℕ × ℕ). p.0) parts.0 in (
        ap (λ (p : Placed). p ∷ laid ones placement) (head_stands one at known.0 parts.0) ∙ ap (λ (ps : List Placed). placed_at units at ∷ ps) rest.0,
        All-cons (λ (at : At). at.unit < length units) at placement (let h = known.0.number in omega (arith, h, number)) rest.1,
      )

  head_named : (one : Instance) → Knows one → instance_at units (pair_of one) ≡ one
  head_named one known = ap (λ (u : PlainUnit). record { number = one.number; index = one.index; unit = u }) (sym known.unit)

  all_named : (ones : List Instance) → AllByRecursion Knows ones → AreNamed units ones (map pair_of ones)
  all_named [] known = record { within = All-nil (λ (pair : ℕ × ℕ). pair.0 < length units); named = refl }
  all_named (one ∷ ones) known =
      let rest = all_named ones known.1 in
      record {
        within = All-cons (λ (pair : ℕ × ℕ). pair.0 < length units) (pair_of one) (map pair_of ones) known.0.number rest.within;
        named = ap (λ (i : Instance). i ∷ map (instance_at units) (map pair_of ones)) (head_named one known.0) ∙ ap (λ (is : List Instance). one ∷ is) rest.named;
      }

pub instances_named : InstancesAreNamed
instances_named units sizes = all_named units (instances units sizes) (whole_known units sizes units refl)

pub stands_listed : ListedStands
stands_listed units sizes placement listed = (both_stand units (instances units sizes) placement (whole_known units sizes units refl) listed).0

pub names_listed : (units : List PlainUnit) (sizes : ℕ → ℕ) (placement : List At) → ListsInstances units sizes placement → NamesUnits units placement
names_listed units sizes placement listed = (both_stand units (instances units sizes) placement (whole_known units sizes units refl) listed).1
