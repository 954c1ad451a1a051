-- How what is taken of a stage grows by one unit; this project's own.
use Rattle.std.specs.Prelude.{◌≡◌, ℕ, ◌+◌, ◌*◌, ◌≤◌, [], ◌∷◌}
use Rattle.elastic_ast.specs.Units.PlainUnits.{PlainUnit}
use Rattle.dep_graph.specs.declared.resource.Resource.TheVariants as resource
use Rattle.dep_graph.specs.Laid.{Placed}
use Rattle.dep_graph.specs.Use.{taken_by, use_of}
use Rattle.place_check.specs.declared.uses.StageUse.{StageUse}

-- what one unit takes of a resource at most
abbrev pub most_taken : ℕ
most_taken = 18446744073709551615

-- no number is above that for each of this many units
pub record IsSmallUse (units : ℕ) (used : StageUse) : Type 0 where
  pub stateful : used.stateful ≤ units * most_taken
  pub stateless : used.stateless ≤ units * most_taken
  pub memory : used.memory ≤ units * most_taken
  pub table_bits : used.table_bits ≤ units * most_taken
  pub ternary_bits : used.ternary_bits ≤ units * most_taken

-- a unit takes so much more
pub record TakesMore (sizes : ℕ → ℕ) (unit : PlainUnit) (old new : StageUse) : Type 0 where
  pub stateful : new.stateful ≡ old.stateful + taken_by resource.Stateful sizes unit
  pub stateless : new.stateless ≡ old.stateless + taken_by resource.Stateless sizes unit
  pub memory : new.memory ≡ old.memory + taken_by resource.Memory sizes unit
  pub table_bits : new.table_bits ≡ old.table_bits + taken_by resource.TableBits sizes unit
  pub ternary_bits : new.ternary_bits ≡ old.ternary_bits + taken_by resource.TernaryBits sizes unit
  pub small : (units : ℕ) → IsSmallUse units old → IsSmallUse (units + 1) new

-- an instance takes so much more of a stage, which is nothing where it stands in another
pub record AddsUse (sizes : ℕ → ℕ) (stage : ℕ) (placed : Placed) (old new : StageUse) : Type 0 where
  pub stateful : new.stateful ≡ old.stateful + use_of resource.Stateful sizes stage (placed ∷ [])
  pub stateless : new.stateless ≡ old.stateless + use_of resource.Stateless sizes stage (placed ∷ [])
  pub memory : new.memory ≡ old.memory + use_of resource.Memory sizes stage (placed ∷ [])
  pub table_bits : new.table_bits ≡ old.table_bits + use_of resource.TableBits sizes stage (placed ∷ [])
  pub ternary_bits : new.ternary_bits ≡ old.ternary_bits + use_of resource.TernaryBits sizes stage (placed ∷ [])
  pub small : (units : ℕ) → IsSmallUse units old → IsSmallUse (units + 1) new
