-- The instances of a program with the stages that a placement gives them; this project's own.
use Rattle.std.specs.Prelude.{ℕ, List, [], ◌∷◌}
use Rattle.elastic_ast.specs.declared.flat.At.{At}
use Rattle.elastic_ast.specs.Units.Instances.{Instance}

-- an instance in a stage
pub record Placed : Type 0 where
  pub instance : Instance
  pub stage : ℕ

-- the instances in order, each with the stage that stands at its place
abbrev pub laid : List Instance → List At → List Placed
laid [] placement = []
laid (first ∷ rest) [] = []
laid (first ∷ rest) (at ∷ placement) = record { instance = first; stage = at.stage } ∷ laid rest placement
