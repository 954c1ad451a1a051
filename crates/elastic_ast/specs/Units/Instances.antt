-- The instances of units at sizes, in the order of the sequential run; this project's own. Sizes are a number for each number
-- of a symbol.
use Rattle.std.specs.Prelude.{ℕ, zero, suc, ◌+◌, ◌==◌, Bool, false, ◌&&◌, List, [], ◌∷◌, ◌++◌, map, flat_map, get_or, Option, Some, None, if◌then◌else◌}
use Rattle.elastic_ast.specs.Tree.{PlainDecl}
use Rattle.elastic_ast.specs.Units.PlainUnits.{PlainUnit}
use Rattle.elastic_ast.specs.Units.UnitsOf.{units_of}

-- the size of the symbol with a number, and 0 where there is none
abbrev pub nth_size : List ℕ → ℕ → ℕ
nth_size sizes number = get_or sizes number 0

-- a unit with its number, at one index
pub record Instance : Type 0 where
  pub number : ℕ
  pub index : ℕ
  pub unit : PlainUnit

-- a unit outside of loops, or the units of one loop, each with its number
pub record Group : Type 0 where
  pub loop_no : Option ℕ
  pub size : Option ℕ
  pub units : List (ℕ × PlainUnit)

abbrev pub same_number : Option ℕ → Option ℕ → Bool
same_number (Some number) (Some other) = number == other
same_number (Some number) None = false
same_number None other = false

-- a unit in the loop of the group
abbrev pub joins : PlainUnit → Group → Bool
joins unit group = same_number unit.loop_no group.loop_no && same_number unit.size group.size

abbrev pub new_group : ℕ → PlainUnit → Group
new_group number unit = record { loop_no = unit.loop_no; size = unit.size; units = (number, unit) ∷ [] }

abbrev pub with_unit : Group → ℕ → PlainUnit → Group
with_unit group number unit =
    record { loop_no = group.loop_no; size = group.size; units = group.units ++ (number, unit) ∷ [] }

-- the groups from a unit's number on, where a group is open
abbrev pub groups_from : Group → ℕ → List PlainUnit → List Group
groups_from group number [] = group ∷ []
groups_from group number (unit ∷ units) =
    if joins unit group then groups_from (with_unit group number unit) (number + 1) units else group ∷ groups_from (new_group number unit) (number + 1) units

-- units one after the other, those of one loop together
abbrev pub groups : ℕ → List PlainUnit → List Group
groups number [] = []
groups number (unit ∷ units) = groups_from (new_group number unit) (number + 1) units

-- each unit at an index
abbrev pub at_index : List (ℕ × PlainUnit) → ℕ → List Instance
at_index units index = map (λ unit. record { number = unit.0; index = index; unit = unit.1 }) units

-- what is listed at 0, then at 1, and so on up to the number below `count`
abbrev pub each_turn : {A : Type 0} → ℕ → (ℕ → List A) → List A
each_turn zero list = []
each_turn (suc count) list = each_turn count list ++ list count

-- outside of loops there is the one index 0; all units of a loop run at one index after the other
abbrev pub group_instances : (ℕ → ℕ) → Option ℕ → List (ℕ × PlainUnit) → List Instance
group_instances sizes None units = at_index units 0
group_instances sizes (Some symbol) units = each_turn (sizes symbol) (at_index units)

abbrev pub all_instances : (ℕ → ℕ) → List Group → List Instance
all_instances sizes groups = flat_map (λ group. group_instances sizes group.size group.units) groups

abbrev pub instances : List PlainUnit → (ℕ → ℕ) → List Instance
instances units sizes = all_instances sizes (groups 0 units)

-- the number of the unit, and the index
abbrev pub pair_of : Instance → ℕ × ℕ
pair_of instance = (instance.number, instance.index)

-- the instances of a program, as pairs of a unit's number and an index
abbrev pub instances_of : List PlainDecl → (ℕ → ℕ) → List (ℕ × ℕ)
instances_of decls sizes = map pair_of (instances (units_of decls) sizes)
