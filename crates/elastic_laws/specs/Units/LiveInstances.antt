-- Which instances at greater sizes are there at smaller ones; this project's own.
use Rattle.std.specs.Prelude.{◌≡◌, ◌≤◌, ℕ, nat_lt, Bool, true, List, filter, Option, Some, None}
use Rattle.elastic_ast.specs.Units.PlainUnits.{PlainUnit}
use Rattle.elastic_ast.specs.Units.Instances.{Instance, instances}

-- the index of a unit in a loop is below the size
abbrev pub is_within : (ℕ → ℕ) → Option ℕ → ℕ → Bool
is_within sizes None index = true
is_within sizes (Some symbol) index = nat_lt index (sizes symbol)

abbrev pub is_live : (ℕ → ℕ) → Instance → Bool
is_live sizes instance = is_within sizes instance.unit.size instance.index

-- the instances at sizes are those instances at greater sizes, in the same order, whose index is below the size
abbrev pub InstancesAreKept : Type 0
InstancesAreKept =
    (units : List PlainUnit) (sizes greater : ℕ → ℕ) → ((symbol : ℕ) → sizes symbol ≤ greater symbol) →
    instances units sizes ≡ filter (is_live sizes) (instances units greater)
