-- The first thing that is wrong with sizes and a placement; this project's own.
use Rattle.std.specs.Prelude.{◌≡◌, ℕ, ◌+◌, ◌<◌, ◌≤◌, ◌==◌, Bool, ◌&&◌, List, [], ◌∷◌, ◌++◌, map, Option, Some, None, if◌then◌else◌}
use Rattle.elastic_ast.specs.declared.flat.At.{At}
use Rattle.elastic_ast.specs.Units.PlainUnits.{PlainUnits}
use Rattle.elastic_ast.specs.Units.Instances.{nth_size, each_turn, pair_of, instances}
use Rattle.target_desc.specs.declared.target.Target.{Target}
use Rattle.size_terms.specs.Rows.{TermsHold}
use Rattle.dep_graph.specs.declared.resource.Resource.{Resource}
use Rattle.dep_graph.specs.declared.resource.Resource.TheVariants as resource
use Rattle.dep_graph.specs.Laid.{Placed, laid}
use Rattle.dep_graph.specs.Use.{use_of, limit_of}
use Rattle.dep_graph.specs.PlacementRules.{named_pair, ListsInstances, StagesExist, StandInOrder, OrderIsKept, UsesFit}
use Rattle.place_check.specs.declared.fault.PlaceFault.{PlaceFault}
use Rattle.place_check.specs.declared.fault.PlaceFault.TheVariants as fault
use Rattle.place_check.specs.UseTables.{header_use}

-- the instances at these sizes, in the stages of a placement
abbrev pub placed_of : PlainUnits → List ℕ → List At → List Placed
placed_of units sizes placement = laid (instances units.list (nth_size sizes)) placement

-- the clauses, each with those before it
pub record Listed (units : PlainUnits) (sizes : List ℕ) (placement : List At) : Type 0 where
  pub assumed : TermsHold units.terms sizes
  pub listed : ListsInstances units.list (nth_size sizes) placement

pub record Staged (units : PlainUnits) (target : Target) (sizes : List ℕ) (placement : List At) : Type 0 where
  pub before : Listed units sizes placement
  pub staged : StagesExist target (placed_of units sizes placement)

pub record Ordered (units : PlainUnits) (target : Target) (sizes : List ℕ) (placement : List At) : Type 0 where
  pub before : Staged units target sizes placement
  pub ordered : OrderIsKept (placed_of units sizes placement)

pub record Fitting (units : PlainUnits) (target : Target) (sizes : List ℕ) (placement : List At) : Type 0 where
  pub before : Ordered units target sizes placement
  pub fitting : UsesFit target (nth_size sizes) (placed_of units sizes placement)

-- all clauses hold
pub record AllHold (units : PlainUnits) (target : Target) (sizes : List ℕ) (placement : List At) : Type 0 where
  pub before : Fitting units target sizes placement
  pub header : header_use units sizes ≤ target.header_bits

-- the first of a list of which something doesn't hold
pub data FirstWithout {A : Type 0} (Holds : A → Type 0) : List A → A → Type 0 where
  Here : (x : A) (rest : List A) → (Holds x → ⊥) → FirstWithout Holds (x ∷ rest) x
  Later : (first x : A) (rest : List A) → Holds first → FirstWithout Holds rest x → FirstWithout Holds (first ∷ rest) x

abbrev pub same_pair : ℕ × ℕ → ℕ × ℕ → Bool
same_pair one other = (one.0 == other.0) && (one.1 == other.1)

-- the first place, counted from a number on, at which two lists differ
abbrev pub first_difference : ℕ → List (ℕ × ℕ) → List (ℕ × ℕ) → Option ℕ
first_difference place [] [] = None
first_difference place [] (other ∷ others) = Some place
first_difference place (one ∷ ones) [] = Some place
first_difference place (one ∷ ones) (other ∷ others) =
    if same_pair one other then first_difference (place + 1) ones others else Some place

-- each one with each later one, by the earlier and then by the later
abbrev pub each_pair : {A : Type 0} → List A → List (A × A)
each_pair [] = []
each_pair (first ∷ rest) = map (λ later. (first, later)) rest ++ each_pair rest

abbrev pub resources : List Resource
resources = resource.Stateful ∷ resource.Stateless ∷ resource.Memory ∷ resource.TableBits ∷ resource.TernaryBits ∷ []

-- the resources of each stage, by the stage and then in their order
abbrev pub stage_resources : ℕ → List (ℕ × Resource)
stage_resources stages = each_turn stages (λ stage. map (λ kind. (stage, kind)) resources)

-- a stage takes no more of a resource than the target has
abbrev pub FitsIn : Target → (ℕ → ℕ) → List Placed → ℕ × Resource → Type 0
FitsIn target sizes placed at = use_of at.1 sizes at.0 placed ≤ limit_of at.1 target

-- a fault names the first clause that doesn't hold, and the first instance, pair, or stage and resource of which it doesn't
pub data FirstFault (units : PlainUnits) (target : Target) (sizes : List ℕ) (placement : List At) : PlaceFault → Type 0 where
  Terms : (TermsHold units.terms sizes → ⊥) → FirstFault units target sizes placement fault.Terms
  Instances : (place : ℕ) → TermsHold units.terms sizes
      → first_difference 0 (map named_pair placement) (map pair_of (instances units.list (nth_size sizes))) ≡ Some place
      → FirstFault units target sizes placement (fault.Instances place)
  StageOut : (one : Placed) → Listed units sizes placement
      → FirstWithout (λ one. one.stage < target.stages) (placed_of units sizes placement) one
      → FirstFault units target sizes placement (fault.StageOut one.instance.number one.instance.index one.stage)
  Order : (first second : Placed) → Staged units target sizes placement
      → FirstWithout (λ pair. StandInOrder pair.0 pair.1) (each_pair (placed_of units sizes placement)) (first, second)
      → FirstFault units target sizes placement (fault.Order first.instance.number first.instance.index second.instance.number second.instance.index)
  Over : (stage : ℕ) (kind : Resource) → Ordered units target sizes placement
      → FirstWithout (FitsIn target (nth_size sizes) (placed_of units sizes placement)) (stage_resources target.stages) (stage, kind)
      → FirstFault units target sizes placement (fault.Over stage kind (use_of kind (nth_size sizes) stage (placed_of units sizes placement)) (limit_of kind target))
  Header : Fitting units target sizes placement → target.header_bits < header_use units sizes
      → FirstFault units target sizes placement (fault.Header (header_use units sizes) target.header_bits)
