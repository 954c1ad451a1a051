-- The sizes that a program may be given on a target, with a placement of its instances; this project's own.
use Rattle.std.specs.Prelude.{◌≡◌, ℕ, ◌≤◌, List, length}
use Rattle.elastic_ast.specs.declared.flat.At.{At}
use Rattle.elastic_ast.specs.Tree.{PlainDecl}
use Rattle.elastic_ast.specs.Sizes.SizeSums.{symbols_of, Assumes}
use Rattle.elastic_ast.specs.Units.UnitsOf.{units_of}
use Rattle.elastic_ast.specs.Units.Instances.{nth_size, instances}
use Rattle.target_desc.specs.declared.target.Target.{Target}
use Rattle.dep_graph.specs.Laid.{Placed, laid}
use Rattle.dep_graph.specs.HeaderBits.{header_bits}
use Rattle.dep_graph.specs.PlacementRules.{ListsInstances, StagesExist, OrderIsKept, UsesFit}

-- the instances of a program at sizes, with the stages of a placement
abbrev pub placed_of : List PlainDecl → List ℕ → List At → List Placed
placed_of decls sizes placement = laid (instances (units_of decls) (nth_size sizes)) placement

-- there is one size per symbol, and the assume clauses hold; the placement lists the instances at these sizes; their stages are
-- stages of the target; each two stand in their order; no stage takes more than the target has; and headers and metadata are within
-- the header bits of the target
pub record Feasible (decls : List PlainDecl) (target : Target) (sizes : List ℕ) (placement : List At) : Type 0 where
  pub sized : length sizes ≡ length (symbols_of decls)
  pub assumed : Assumes decls sizes
  pub listed : ListsInstances (units_of decls) (nth_size sizes) placement
  pub staged : StagesExist target (placed_of decls sizes placement)
  pub ordered : OrderIsKept (placed_of decls sizes placement)
  pub fitting : UsesFit target (nth_size sizes) (placed_of decls sizes placement)
  pub header : header_bits decls sizes ≤ target.header_bits
