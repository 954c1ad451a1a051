-- What the instances in a stage take of it, and what the target has; this project's own. Sizes are a number for each number of a
-- symbol.
use Rattle.std.specs.Prelude.{ℕ, ◌+◌, ◌*◌, ◌==◌, List, [], ◌∷◌, Option, Some, None, if◌then◌else◌}
use Rattle.elastic_ast.specs.declared.flat.Cells.{Cells}
use Rattle.elastic_ast.specs.declared.flat.Cells.TheVariants as cells
use Rattle.elastic_ast.specs.Units.PlainUnits.{PlainUnit}
use Rattle.target_desc.specs.declared.target.Target.{Target}
use Rattle.dep_graph.specs.declared.resource.Resource.{Resource}
use Rattle.dep_graph.specs.declared.resource.Resource.TheVariants as resource
use Rattle.dep_graph.specs.Laid.{Placed}

-- how many registers a unit has: one where it names one
abbrev pub register_count : Option Cells → ℕ
register_count None = 0
register_count (Some count) = 1

-- how many cells the register of a unit has, and 0 where it names none
abbrev pub cell_count : (ℕ → ℕ) → Option Cells → ℕ
cell_count sizes None = 0
cell_count sizes (Some (cells.Fixed number)) = number
cell_count sizes (Some (cells.Symbol symbol)) = sizes symbol

-- what one instance of a unit takes of a resource
abbrev pub taken_by : Resource → (ℕ → ℕ) → PlainUnit → ℕ
taken_by resource.Stateful sizes unit = register_count unit.cells
taken_by resource.Stateless sizes unit = unit.cost
taken_by resource.Memory sizes unit = cell_count sizes unit.cells * unit.cell_width
taken_by resource.TableBits sizes unit = unit.table_bits
taken_by resource.TernaryBits sizes unit = unit.ternary_bits

-- an amount for each unit, added up over the instances in a stage
abbrev pub sum_in : (PlainUnit → ℕ) → ℕ → List Placed → ℕ
sum_in amount stage [] = 0
sum_in amount stage (first ∷ rest) = (if first.stage == stage then amount first.instance.unit else 0) + sum_in amount stage rest

-- what the instances in a stage take of a resource
abbrev pub use_of : Resource → (ℕ → ℕ) → ℕ → List Placed → ℕ
use_of resource sizes = sum_in (taken_by resource sizes)

-- what a target has of a resource in each stage
abbrev pub limit_of : Resource → Target → ℕ
limit_of resource.Stateful target = target.stateful
limit_of resource.Stateless target = target.stateless
limit_of resource.Memory target = target.memory_bits
limit_of resource.TableBits target = target.table_bits
limit_of resource.TernaryBits target = target.ternary_bits
