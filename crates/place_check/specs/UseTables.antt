-- What the instances of a placement take of each stage, and the header bits; this project's own.
use Rattle.std.specs.Prelude.{◌≡◌, ℕ, ◌+◌, List, [], ◌∷◌}
use Rattle.elastic_ast.specs.declared.flat.At.{At}
use Rattle.elastic_ast.specs.Units.PlainUnits.{PlainUnits}
use Rattle.elastic_ast.specs.Units.Instances.{nth_size, each_turn}
use Rattle.target_desc.specs.declared.target.Target.{Target}
use Rattle.dep_graph.specs.declared.resource.Resource.TheVariants as resource
use Rattle.dep_graph.specs.Laid.{Placed}
use Rattle.dep_graph.specs.Use.{use_of}
use Rattle.dep_graph.specs.HeaderBits.{weighed}
use Rattle.place_check.specs.declared.uses.StageUse.{StageUse}
use Rattle.place_check.specs.declared.uses.UseTable.{UseTable}
use Rattle.place_check.specs.Standing.{standing}

-- what the instances in a stage take of each resource
abbrev pub stage_use : (ℕ → ℕ) → List Placed → ℕ → StageUse
stage_use sizes placed stage =
    record {
      stateful = use_of resource.Stateful sizes stage placed;
      stateless = use_of resource.Stateless sizes stage placed;
      memory = use_of resource.Memory sizes stage placed;
      table_bits = use_of resource.TableBits sizes stage placed;
      ternary_bits = use_of resource.TernaryBits sizes stage placed;
    }

-- the header bits of units at sizes
abbrev pub header_use : PlainUnits → List ℕ → ℕ
header_use units sizes = units.fixed_bits + weighed units.symbol_bits sizes

-- the use of each stage in turn, and the header bits
pub record IsUseTable (units : PlainUnits) (target : Target) (sizes : List ℕ) (placement : List At) (table : UseTable) : Type 0 where
  pub stages : table.stages ≡ each_turn target.stages (λ stage. stage_use (nth_size sizes) (standing units.list placement) stage ∷ [])
  pub header : table.header ≡ header_use units sizes
