-- Whether a stage takes more of a resource than the target has, as a test; this project's own.
use Rattle.std.specs.Prelude.{◌≡◌, ℕ, ◌<◌, nat_lt, Bool, List, Option, Some, None}
use Rattle.std.specs.List.{find}
use Rattle.target_desc.specs.declared.target.Target.{Target}
use Rattle.dep_graph.specs.declared.resource.Resource.{Resource}
use Rattle.dep_graph.specs.declared.resource.Resource.TheVariants as resource
use Rattle.dep_graph.specs.Laid.{Placed}
use Rattle.dep_graph.specs.Use.{limit_of}
use Rattle.place_check.specs.declared.uses.StageUse.{StageUse}
use Rattle.place_check.specs.UseTables.{stage_use}
use Rattle.place_check.specs.FirstFault.{resources}

abbrev pub used_by : Resource → StageUse → ℕ
used_by resource.Stateful used = used.stateful
used_by resource.Stateless used = used.stateless
used_by resource.Memory used = used.memory
used_by resource.TableBits used = used.table_bits
used_by resource.TernaryBits used = used.ternary_bits

abbrev pub is_over : Target → StageUse → Resource → Bool
is_over target used kind = nat_lt (limit_of kind target) (used_by kind used)

-- the first resource of which a stage takes too much
abbrev pub over_in : Target → (ℕ → ℕ) → List Placed → ℕ → Option Resource
over_in target sizes placed stage = find (is_over target (stage_use sizes placed stage)) resources

-- no stage below this one takes too much
abbrev pub NoneOver : Target → (ℕ → ℕ) → List Placed → ℕ → Type 0
NoneOver target sizes placed stages = (stage : ℕ) → stage < stages → over_in target sizes placed stage ≡ None

-- a stage is the first that takes too much, and this is the first resource of which it does
pub record IsFirstOver (target : Target) (sizes : ℕ → ℕ) (placed : List Placed) (stage : ℕ) (kind : Resource) (used : ℕ) : Type 0 where
  pub below : stage < target.stages
  pub before : NoneOver target sizes placed stage
  pub here : over_in target sizes placed stage ≡ Some kind
  pub amount : used ≡ used_by kind (stage_use sizes placed stage)
