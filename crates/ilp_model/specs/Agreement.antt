-- That the points of the integer program and the feasible sizes and placements agree; this project's own. Bounds are a number for each
-- number of a symbol.
use Rattle.std.specs.Prelude.{◌≡◌, ℕ, ℤ, ◌≤◌, List}
use Rattle.elastic_ast.specs.declared.flat.At.{At}
use Rattle.elastic_ast.specs.Units.PlainUnits.{PlainUnits}
use Rattle.elastic_ast.specs.Units.Instances.{nth_size}
use Rattle.target_desc.specs.declared.target.Target.{Target}
use Rattle.size_terms.specs.Rows.{worth}
use Rattle.place_check.specs.OfUnits.{FeasibleUnits}
use Rattle.unit_flow.specs.SoundUnits.{SoundUnits}
use Rattle.int_program.specs.Points.{IsPoint, value_of}
use Rattle.ilp_model.specs.IpOf.{ip_of}
use Rattle.ilp_model.specs.PairOf.{sizes_of, placement_of}

-- each size is at most the bound of its symbol
abbrev pub AreWithin : (ℕ → ℕ) → List ℕ → Type 0
AreWithin bounds sizes = (symbol : ℕ) → nth_size sizes symbol ≤ bounds symbol

-- a point that gives these sizes and this placement, and whose value is the utility
pub record IsPointOf (units : PlainUnits) (target : Target) (bounds : ℕ → ℕ) (sizes : List ℕ) (placement : List At)
    (point : List ℤ) : Type 0 where
  pub is_point : IsPoint (ip_of units target bounds) point
  pub gives_sizes : sizes_of units point ≡ sizes
  pub gives_placement : placement_of units target bounds point ≡ placement
  pub value : value_of (ip_of units target bounds) point ≡ worth units.terms sizes

-- feasible sizes within the bounds, with their placement, are given by some point
abbrev pub FeasiblePairsArePoints : Type 0
FeasiblePairsArePoints =
    (units : PlainUnits) (target : Target) (bounds : ℕ → ℕ) (sizes : List ℕ) (placement : List At)
    → SoundUnits units → FeasibleUnits units target sizes placement → AreWithin bounds sizes
    → (point : List ℤ) × IsPointOf units target bounds sizes placement point

-- the sizes and the placement of a point are feasible, the sizes are within the bounds, and the utility is the value
pub record GivesFeasiblePair (units : PlainUnits) (target : Target) (bounds : ℕ → ℕ) (point : List ℤ) : Type 0 where
  pub feasible : FeasibleUnits units target (sizes_of units point) (placement_of units target bounds point)
  pub within : AreWithin bounds (sizes_of units point)
  pub value : value_of (ip_of units target bounds) point ≡ worth units.terms (sizes_of units point)

abbrev pub PointsAreFeasiblePairs : Type 0
PointsAreFeasiblePairs =
    (units : PlainUnits) (target : Target) (bounds : ℕ → ℕ) (point : List ℤ)
    → SoundUnits units → IsPoint (ip_of units target bounds) point → GivesFeasiblePair units target bounds point
