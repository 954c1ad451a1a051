-- What is found of units within bounds: the answer of a search of their integer program, and the sizes and placements of its points;
-- this project's own.
use Rattle.std.specs.Prelude.{◌≡◌, ℕ, ℤ, List, Option, Some, None}
use Rattle.elastic_ast.specs.Units.PlainUnits.{PlainUnits}
use Rattle.elastic_ast.specs.Units.Instances.{nth_size}
use Rattle.target_desc.specs.declared.target.Target.{Target}
use Rattle.size_terms.specs.Rows.{worth}
use Rattle.int_program.specs.declared.program.Point.{Point}
use Rattle.int_program.specs.declared.program.Tree.{Tree}
use Rattle.branch_bound.specs.Found.{IsBest, IsNoPoint, IsUnfinished}
use Rattle.ilp_model.specs.IpOf.{ip_of}
use Rattle.ilp_model.specs.PairOf.{sizes_of, placement_of}
use Rattle.size_search.specs.declared.choosing.Choice.{Choice}
use Rattle.size_search.specs.declared.choosing.Choice.TheVariants as choice
use Rattle.size_search.specs.declared.choosing.Placed.{Placed}

-- the sizes and the placement of a point, and what the sizes are worth
pub record IsPlacedBy (units : PlainUnits) (target : Target) (bounds : List ℕ) (point : List ℤ) (placed : Placed) : Type 0 where
  pub sizes : placed.sizes.values ≡ sizes_of units point
  pub placement : placed.placement.at ≡ placement_of units target (nth_size bounds) point
  pub worth : placed.utility ≡ worth units.terms (sizes_of units point)

-- the same of a point that may be missing
abbrev pub ArePlacedBy : PlainUnits → Target → List ℕ → Option Point → Option Placed → Type 0
ArePlacedBy units target bounds None None = Unit {0}
ArePlacedBy units target bounds None (Some placed) = ⊥
ArePlacedBy units target bounds (Some point) None = ⊥
ArePlacedBy units target bounds (Some point) (Some placed) = IsPlacedBy units target bounds point.values placed

-- the point of which the sizes and the placement are, with its tree
pub record IsBestChosen (units : PlainUnits) (target : Target) (bounds : List ℕ) (limit : ℕ) (placed : Placed) (tree : Tree)
    : Type 0 where
  pub point : Point
  pub best : IsBest (ip_of units target (nth_size bounds)) limit point tree
  pub placed_by : IsPlacedBy units target bounds point.values placed

pub record IsUnfinishedChosen (units : PlainUnits) (target : Target) (bounds : List ℕ) (limit : ℕ) (best : Option Placed) (tree : Tree)
    : Type 0 where
  pub point : Option Point
  pub unfinished : IsUnfinished (ip_of units target (nth_size bounds)) limit point tree
  pub placed_by : ArePlacedBy units target bounds point best

abbrev pub IsChosen : PlainUnits → Target → List ℕ → ℕ → Choice → Type 0
IsChosen units target bounds limit (choice.Best placed tree) = IsBestChosen units target bounds limit placed tree
IsChosen units target bounds limit (choice.Infeasible tree) = IsNoPoint (ip_of units target (nth_size bounds)) limit tree
IsChosen units target bounds limit (choice.Unfinished best tree) = IsUnfinishedChosen units target bounds limit best tree
IsChosen units target bounds limit (choice.Unbounded symbol) = ⊥
IsChosen units target bounds limit (choice.Large what count) = ⊥
