-- What the integer program within the bounds of units says of all sizes and placements; this project's own.
use Rattle.std.specs.Prelude.{ℕ, ℤ, ◌≤ℤ◌, List}
use Rattle.elastic_ast.specs.Tree.{PlainDecl}
use Rattle.elastic_ast.specs.Units.PlainUnits.{PlainUnits}
use Rattle.elastic_ast.specs.Units.Instances.{nth_size}
use Rattle.target_desc.specs.declared.target.Target.{Target}
use Rattle.dep_graph.specs.Optimum.{Best, Infeasible}
use Rattle.place_check.specs.OfUnits.{AreUnitsOf, BestUnits, InfeasibleUnits}
use Rattle.unit_flow.specs.SoundUnits.{SoundUnits}
use Rattle.unroll_bound.specs.BoundAnswers.{HaveBounds}
use Rattle.int_program.specs.Points.{IsPoint, value_of}
use Rattle.ilp_model.specs.IpOf.{ip_of}
use Rattle.ilp_model.specs.PairOf.{sizes_of, placement_of}

-- a point of the integer program, and no point has a greater value
pub record IsBestPoint (units : PlainUnits) (target : Target) (bounds : List ℕ) (point : List ℤ) : Type 0 where
  pub is_point : IsPoint (ip_of units target (nth_size bounds)) point
  pub most :
      (other : List ℤ) → IsPoint (ip_of units target (nth_size bounds)) other
      → value_of (ip_of units target (nth_size bounds)) other ≤ℤ value_of (ip_of units target (nth_size bounds)) point

-- no point
abbrev pub HasNoPoint : PlainUnits → Target → List ℕ → Type 0
HasNoPoint units target bounds = (point : List ℤ) → IsPoint (ip_of units target (nth_size bounds)) point → ⊥

-- what a best point gives is best of all sizes and placements
abbrev pub BestPointsAreBest : Type 0
BestPointsAreBest =
    (units : PlainUnits) (target : Target) (bounds : List ℕ) (point : List ℤ)
    → SoundUnits units → HaveBounds units target bounds → IsBestPoint units target bounds point
    → BestUnits units target (sizes_of units point) (placement_of units target (nth_size bounds) point)

-- where there is no point, no sizes and placement are feasible
abbrev pub NoPointIsInfeasible : Type 0
NoPointIsInfeasible =
    (units : PlainUnits) (target : Target) (bounds : List ℕ)
    → SoundUnits units → HaveBounds units target bounds
    → HasNoPoint units target bounds
    → InfeasibleUnits units target

-- the same of the program that the units are of
abbrev pub BestPointsAreBestOfProgram : Type 0
BestPointsAreBestOfProgram =
    (decls : List PlainDecl) (units : PlainUnits) (target : Target) (bounds : List ℕ) (point : List ℤ)
    → AreUnitsOf decls units → SoundUnits units → HaveBounds units target bounds → IsBestPoint units target bounds point
    → Best decls target (sizes_of units point) (placement_of units target (nth_size bounds) point)

abbrev pub NoPointIsInfeasibleProgram : Type 0
NoPointIsInfeasibleProgram =
    (decls : List PlainDecl) (units : PlainUnits) (target : Target) (bounds : List ℕ)
    → AreUnitsOf decls units → SoundUnits units → HaveBounds units target bounds → HasNoPoint units target bounds
    → Infeasible decls target
