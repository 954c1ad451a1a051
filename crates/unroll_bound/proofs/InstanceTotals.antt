-- An amount of each instance, added up: for each unit so often as it runs.
use Rattle.std.proofs.Common.{◌≡◌, ℕ, ◌+◌, ◌*◌, Bool, true, false, List, [], ◌∷◌, ◌++◌, Option, Some, None, refl, ap, arith, eqb-true}
use Rattle.std.specs.Prelude.{if◌then◌else◌}
use Rattle.std.specs.List.{AllByRecursion}
use Rattle.std.proofs.lemmas.Bool.{and_parts}
use Rattle.elastic_ast.specs.Units.PlainUnits.{PlainUnit}
use Rattle.elastic_ast.specs.Units.Instances.{Instance, Group, same_number, joins, new_group, with_unit, groups_from, groups, at_index, group_instances, all_instances, instances}
use Rattle.place_check.specs.Walking.{turns_of}
use Rattle.unroll_bound.proofs.Totals.{each_append, total, total-append, total_map, total_turns}

module _ (sizes : ℕ → ℕ) (amount : ℕ → PlainUnit → ℕ) where
  -- what the instances of a unit come to
  abbrev pub turned : ℕ × PlainUnit → ℕ
  turned pair = turns_of sizes pair.1.size * amount pair.0 pair.1

  abbrev pub turned_from : ℕ → List PlainUnit → ℕ
  turned_from number [] = 0
  turned_from number (unit ∷ units) = turned (number, unit) + turned_from (number + 1) units

  abbrev amount_of : Instance → ℕ
  amount_of instance = amount instance.number instance.unit

  abbrev IsUniform : Option ℕ → List (ℕ × PlainUnit) → Type 0
  IsUniform size pairs = AllByRecursion (λ pair. pair.1.size ≡ size) pairs

  same_is : (one other : Option ℕ) → same_number one other ≡ true → one ≡ other
  same_is (Some a) (Some b) h = ap Some (eqb-true a b h)
  same_is (Some a) None h = cc
  same_is None b h = cc

  uniform_total : (size : Option ℕ) (pairs : List (ℕ × PlainUnit)) → IsUniform size pairs → total turned pairs ≡ turns_of sizes size * total (λ pair. amount pair.0 pair.1) pairs
  uniform_total size [] h = omega arith
  uniform_total size (pair ∷ pairs) h = let e = ap (λ s. turns_of sizes s * amount pair.0 pair.1) h.0 in omega (arith, e, uniform_total size pairs h.1)

  index_total : (pairs : List (ℕ × PlainUnit)) (index : ℕ) → total amount_of (at_index pairs index) ≡ total (λ pair. amount pair.0 pair.1) pairs
  index_total pairs index = total_map amount_of (λ pair. record { number = pair.0; index = index; unit = pair.1 }) pairs

  group_total : (size : Option ℕ) (pairs : List (ℕ × PlainUnit)) → IsUniform size pairs → total amount_of (group_instances sizes size pairs) ≡ total turned pairs
  group_total None pairs h = omega (arith, uniform_total None pairs h, index_total pairs 0)
  group_total (Some symbol) pairs h =
      omega (arith, uniform_total (Some symbol) pairs h, total_turns amount_of (total (λ pair. amount pair.0 pair.1) pairs) (sizes symbol) (at_index pairs) (index_total pairs))

  open_total : (group : Group) (number : ℕ) (units : List PlainUnit) → IsUniform group.size group.units
      → total amount_of (all_instances sizes (groups_from group number units)) ≡ total turned group.units + turned_from number units
  open_total group number [] h = omega (arith, total-append amount_of (group_instances sizes group.size group.units) [], group_total group.size group.units h)
  open_total group number (unit ∷ units) h = by (joins unit group) refl (λ g k. open_total g (number + 1) units k)
    where
      by : (same : Bool) → joins unit group ≡ same
          → ((g : Group) → IsUniform g.size g.units → total amount_of (all_instances sizes (groups_from g (number + 1) units)) ≡ total turned g.units + turned_from (number + 1) units)
          → total amount_of (all_instances sizes (if same then groups_from (with_unit group number unit) (number + 1) units else group ∷ groups_from (new_group number unit) (number + 1) units))
          ≡ total turned group.units + (turned (number, unit) + turned_from (number + 1) units)
      by true e ih =
          let uniform : IsUniform group.size (group.units ++ (number, unit) ∷ []) =
          each_append (λ pair. pair.1.size ≡ group.size) group.units ((number, unit) ∷ []) h (same_is unit.size group.size (and_parts (same_number unit.loop_no group.loop_no) (same_number unit.size group.size) e).1, tt) in
          omega (arith, ih (with_unit group number unit) uniform, total-append turned group.units ((number, unit) ∷ []))
      by false e ih =
          omega (
            arith,
            ih (new_group number unit) (refl, tt),
            group_total group.size group.units h,
            total-append amount_of (group_instances sizes group.size group.units) (all_instances sizes (groups_from (new_group number unit) (number + 1) units)),
          )

  groups_total : (number : ℕ) (units : List PlainUnit) → total amount_of (all_instances sizes (groups number units)) ≡ turned_from number units
  groups_total number [] = refl
  groups_total number (unit ∷ units) = omega (arith, open_total (new_group number unit) (number + 1) units (refl, tt))

  -- each unit's amount counts so often as it runs
  pub instances_total : (units : List PlainUnit) → total amount_of (instances units sizes) ≡ turned_from 0 units
  instances_total units = groups_total 0 units
