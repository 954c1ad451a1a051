-- The stages that a placement gives to units by their numbers; this project's own.
use Rattle.std.specs.Prelude.{◌≡◌, ℕ, ◌<◌, List, [], map, length, get_or, All, None}
use Rattle.elastic_ast.specs.declared.flat.At.{At}
use Rattle.elastic_ast.specs.Units.PlainUnits.{PlainWork, PlainUnit}
use Rattle.elastic_ast.specs.Units.Instances.{Instance, pair_of, instances}
use Rattle.dep_graph.specs.Laid.{Placed, laid}
use Rattle.dep_graph.specs.PlacementRules.{ListsInstances}

-- a unit that takes nothing and reads and writes nothing
abbrev pub no_unit : PlainUnit
no_unit =
    record {
      lits = [];
      conds = [];
      work = PlainWork.Apply [];
      loop_no = None;
      size = None;
      index = None;
      stage = None;
      reads = [];
      writes = [];
      cells = None;
      cell_width = 0;
      cost = 0;
      ops = 0;
      table_bits = 0;
      ternary_bits = 0;
    }

-- the instance of a unit's number and an index
abbrev pub instance_at : List PlainUnit → ℕ × ℕ → Instance
instance_at units pair = record { number = pair.0; index = pair.1; unit = get_or units pair.0 no_unit }

-- each number is that of a unit, and the instances are those of their numbers and indices
pub record AreNamed (units : List PlainUnit) (ones : List Instance) (pairs : List (ℕ × ℕ)) : Type 0 where
  pub within : All (λ pair. pair.0 < length units) pairs
  pub named : map (instance_at units) pairs ≡ ones

-- the instance that stands at a place of a placement, in its stage
abbrev pub placed_at : List PlainUnit → At → Placed
placed_at units at =
    record {
      instance = record { number = at.unit; index = at.index; unit = get_or units at.unit no_unit };
      stage = at.stage;
    }

abbrev pub standing : List PlainUnit → List At → List Placed
standing units placement = map (placed_at units) placement

-- each number is that of a unit
abbrev pub NamesUnits : List PlainUnit → List At → Type 0
NamesUnits units placement = All (λ at. at.unit < length units) placement

-- a placement that lists the instances gives each of them the stage at its place
abbrev pub ListedStands : Type 0
ListedStands =
    (units : List PlainUnit) (sizes : ℕ → ℕ) (placement : List At) → ListsInstances units sizes placement → laid (instances units sizes) placement ≡ standing units placement

-- the pairs of the instances name these
abbrev pub InstancesAreNamed : Type 0
InstancesAreNamed = (units : List PlainUnit) (sizes : ℕ → ℕ) → AreNamed units (instances units sizes) (map pair_of (instances units sizes))
