-- How a run must end by its program and its target, from what it answers of them: no two causes stand together.
use Rattle.std.proofs.Common.{◌≡◌, ℕ, zero, suc, ◌<◌, ◌≤◌, List, [], ◌∷◌, Option, Some, refl, subst, arith}
use Rattle.std.specs.Prelude.{All, option_map, slice_get}
use Rattle.std.proofs.lemmas.List.Elements.{All-head, All-tail}
use Rattle.elastic_ast.specs.Tree.{PlainProgram}
use Rattle.elastic_ast.specs.Units.PlainUnits.{PlainUnit}
use Rattle.elastic_ast.specs.Units.UnitsOf.{OpsFit, units_of}
use Rattle.target_desc.specs.declared.target.Target.{Target}
use Rattle.unit_flow.specs.TooLarge.{IsFirstAbove}
use Rattle.unroll_bound.specs.declared.unit_bounds.What.{What}
use Rattle.unroll_bound.specs.ProgramUnits.{units_of_program}
use Rattle.int_program.specs.Counting.{root_points}
use Rattle.int_program.specs.declared.program.Tree.{Tree}
use Rattle.size_search.specs.declared.choosing.Placed.{Placed}
use Rattle.size_search.specs.Choice.{AreBoundsOf, ip_of_program, IsBestChoice, IsInfeasibleChoice, IsUnfinishedChoice, IsUnbounded, IsLarge}
use Rattle.p4all_top.specs.Limits.{size_splits}
use Rattle.p4all_top.specs.declared.status.Status.TheVariants as status
use Rattle.p4all_top.specs.Ending.{EndsOn}
use Rattle.p4all_top.proofs.BoundLaws.{one_bounds, never_large, never_missing}

-- where a unit is too large, not all of them fit
too_large : (units : List PlainUnit) (most unit ops : ℕ) → option_map (λ unit. unit.ops) (slice_get units unit) ≡ Some ops → most < ops → All (λ unit. unit.ops ≤ most) units → ⊥
too_large [] most unit ops here above fits = absurd (cc here)
too_large (u ∷ us) most zero ops here above fits =
    let e : u.ops ≡ ops = cc in
    let h = All-head (λ unit. unit.ops ≤ most) u us fits in
    absurd (omega (arith, e, h, above))
too_large (u ∷ us) most (suc unit) ops here above fits = too_large us most unit ops here above (All-tail (λ unit. unit.ops ≤ most) u us fits)

never_fits : (decls : PlainProgram) (on : Target) (unit ops : ℕ) → IsFirstAbove (units_of decls) on.ops unit ops → OpsFit decls on.ops → ⊥
never_fits decls on unit ops first fits = too_large (units_of decls) on.ops unit ops first.here first.above fits

-- a run that refuses a program ends so, where nothing is chosen for the program
refuses : (decls : PlainProgram) (on : Target) → (OpsFit decls on.ops → (bounds : List ℕ) → AreBoundsOf decls on bounds → ⊥)
    → EndsOn decls on status.Refused
refuses decls on none = record {
  too_large = λ bad. refl;
  unbounded = λ place u. refl;
  large = λ part count l. refl;
  best = λ fits bounds are sizes placement good. absurd (none fits bounds are);
  none = λ fits bounds are infeasible. absurd (none fits bounds are);
}

pub answers_unit : (decls : PlainProgram) (on : Target) (unit ops : ℕ) → IsFirstAbove (units_of decls) on.ops unit ops → EndsOn decls on status.Refused
answers_unit decls on unit ops first = refuses decls on (λ fits bounds are. never_fits decls on unit ops first fits)

pub answers_unbounded : (decls : PlainProgram) (on : Target) (place : ℕ) → IsUnbounded decls on place → EndsOn decls on status.Refused
answers_unbounded decls on place unbounded = refuses decls on (λ fits bounds are. never_missing decls on bounds place are.found unbounded)

pub answers_large : (decls : PlainProgram) (on : Target) (part : What) (count : ℕ) → IsLarge decls on part count → EndsOn decls on status.Refused
answers_large decls on part count large = refuses decls on (λ fits bounds are. never_large decls on bounds part count are large)

pub answers_best : (decls : PlainProgram) (on : Target) → OpsFit decls on.ops → (placed : Placed) (tree : Tree)
    → IsBestChoice decls on size_splits placed tree → EndsOn decls on status.Done
answers_best decls on fits placed tree made = record {
  too_large = λ bad. absurd (bad fits);
  unbounded = λ place u. absurd (never_missing decls on made.bounds place made.are_bounds.found u);
  large = λ part count l. absurd (never_large decls on made.bounds part count made.are_bounds l);
  best = λ _ _ _ sizes placement good. refl;
  none = λ _ _ _ infeasible. absurd (infeasible placed.sizes.values placed.placement.at made.best.feasible);
}

pub answers_infeasible : (decls : PlainProgram) (on : Target) → OpsFit decls on.ops → (tree : Tree)
    → IsInfeasibleChoice decls on size_splits tree → EndsOn decls on status.Infeasible
answers_infeasible decls on fits tree made = record {
  too_large = λ bad. absurd (bad fits);
  unbounded = λ place u. absurd (never_missing decls on made.bounds place made.are_bounds.found u);
  large = λ part count l. absurd (never_large decls on made.bounds part count made.are_bounds l);
  best = λ _ _ _ sizes placement good. absurd (made.none sizes placement good);
  none = λ _ _ _ infeasible. refl;
}

-- unfinished: there are more points than splits, at whichever list of the bounds
pub answers_unfinished : (decls : PlainProgram) (on : Target) → OpsFit decls on.ops → (best : Option Placed) (tree : Tree)
    → IsUnfinishedChoice decls on size_splits best tree → EndsOn decls on status.Unfinished
answers_unfinished decls on fits best tree made = record {
  too_large = λ bad. absurd (bad fits);
  unbounded = λ place u. absurd (never_missing decls on made.bounds place made.are_bounds.found u);
  large = λ part count l. absurd (never_large decls on made.bounds part count made.are_bounds l);
  best = λ _ bounds are sizes placement good. few bounds are;
  none = λ _ bounds are infeasible. few bounds are;
}
  where
    few : (bounds : List ℕ) → AreBoundsOf decls on bounds → size_splits < root_points (ip_of_program decls on bounds)
    few bounds are =
        subst (λ (z : List ℕ). size_splits < root_points (ip_of_program decls on z))
        (one_bounds (units_of_program decls) on made.bounds bounds made.are_bounds.found are.found) made.few
