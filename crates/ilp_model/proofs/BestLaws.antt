-- No better point, no better sizes and placement; no point, none at all.
use Rattle.std.proofs.Common.{◌≡◌, ℕ, ℤ, ◌≤ℤ◌, List, arith, ⊎_elim}
use Rattle.std.proofs.lemmas.Bool.{cases_lt}
use Rattle.std.proofs.lemmas.Int.{ints}
use Rattle.elastic_ast.specs.declared.flat.At.{At}
use Rattle.elastic_ast.specs.Units.PlainUnits.{PlainUnits}
use Rattle.elastic_ast.specs.Units.Instances.{nth_size}
use Rattle.target_desc.specs.declared.target.Target.{Target}
use Rattle.place_check.specs.OfUnits.{FeasibleUnits}
use Rattle.unit_flow.specs.SoundUnits.{SoundUnits}
use Rattle.unroll_bound.proofs.WithinBounds.{sizes_within}
use Rattle.ilp_model.specs.Variables.{symbol_count}
use Rattle.ilp_model.specs.PairOf.{sizes_of, placement_of}
use Rattle.ilp_model.specs.Agreement.{AreWithin}
use Rattle.place_check.proofs.UnitLaws.{best_alike, infeasible_alike}
use Rattle.unroll_bound.specs.BoundAnswers.{HaveBounds}
use Rattle.ilp_model.specs.Optimum.{BestPointsAreBest, NoPointIsInfeasible, BestPointsAreBestOfProgram, NoPointIsInfeasibleProgram}
use Rattle.ilp_model.proofs.Lists.{past}
use Rattle.ilp_model.proofs.PairsAndPoints.{pairs_are_points, points_are_pairs}

within : (units : PlainUnits) (target : Target) (bounds sizes : List ℕ) (placement : List At) → SoundUnits units → HaveBounds units target bounds → FeasibleUnits units target sizes placement → AreWithin (nth_size bounds) sizes
within units target bounds sizes placement sound are f s =
    ⊎_elim (λ lt. sizes_within units target sizes placement sound f s (nth_size bounds s) (are.each s lt))
    (λ le. (let e : nth_size sizes s ≡ 0 = past sizes s 0 (let n = f.sized in omega (arith, n, le)) in omega (arith, e)))
    (cases_lt s (symbol_count units))

pub best_points_are_best : BestPointsAreBest
best_points_are_best units target bounds x sound are best =
    let pair = points_are_pairs units target (nth_size bounds) x sound best.is_point in
    record {
      feasible = pair.feasible;
      most = λ other places f.
          (let r = pairs_are_points units target (nth_size bounds) other places sound f (within units target bounds other places sound are f) in
          le _ _ _ _ (best.most r.0 r.1.is_point) r.1.value pair.value);
    }
  where
    le : (a b c d : ℤ) → a ≤ℤ b → a ≡ c → b ≡ d → c ≤ℤ d
    le a b c d h e f = omega (arith, ints, h, e, f)

pub no_point_is_infeasible : NoPointIsInfeasible
no_point_is_infeasible units target bounds sound are none sizes placement f =
    let r = pairs_are_points units target (nth_size bounds) sizes placement sound f (within units target bounds sizes placement sound are f) in
    none r.0 r.1.is_point

pub best_of_program : BestPointsAreBestOfProgram
best_of_program decls units target bounds x units_are sound are best = (best_alike decls units target (sizes_of units x) (placement_of units target (nth_size bounds) x) units_are).0 (best_points_are_best units target bounds x sound are best)

pub infeasible_program : NoPointIsInfeasibleProgram
infeasible_program decls units target bounds units_are sound are none = (infeasible_alike decls units target units_are).0 (no_point_is_infeasible units target bounds sound are none)
