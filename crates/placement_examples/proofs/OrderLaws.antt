-- What holds of placements of two assignments, of a condition with its branches, and of two blocks.
use Rattle.std.proofs.Common.{◌≡◌, ◌<◌, [], ◌∷◌, length, refl, ap, arith}
use Rattle.std.proofs.lemmas.Bool.{leb-true}
use Rattle.std.proofs.lemmas.List.Elements.{All-nil}
use Rattle.elastic_ast.specs.Sizes.SizeSums.{Holds, IsCounted, symbols_of}
use Rattle.elastic_ast.specs.Units.Instances.{nth_size}
use Rattle.elastic_laws.specs.Examples.WorkedSources.{swap_then_set, changed_condition, two_staged_blocks}
use Rattle.dep_graph.specs.Feasible.{Feasible, placed_of}
use Rattle.dep_graph.specs.Optimum.{Infeasible}
use Rattle.placement_examples.specs.WorkedTargets.{switch_with, put_at, set_then_copy, both_first}
use Rattle.placement_examples.specs.WorkedPlacements.{OrdersOnStages}
use Rattle.placement_examples.proofs.FittingTest.{fitting_by}

swapped : Feasible swap_then_set (switch_with 1 2) [] both_first
swapped = record {
  sized = refl;
  assumed = record { compared = All-nil (Holds (symbols_of swap_then_set) []); counted = All-nil (IsCounted swap_then_set []) };
  listed = refl;
  staged = (leb-true _ _ refl, (leb-true _ _ refl, tt));
  ordered = ((leb-true _ _ refl, tt), (tt, tt));
  fitting = fitting_by (switch_with 1 2) (nth_size []) (placed_of swap_then_set [] both_first) refl;
  header = leb-true _ _ refl;
}

condition_fits : Feasible changed_condition (switch_with 2 2) [] (put_at 0 0 0 ∷ put_at 1 0 1 ∷ put_at 2 0 1 ∷ [])
condition_fits = record {
  sized = refl;
  assumed = record { compared = All-nil (Holds (symbols_of changed_condition) []); counted = All-nil (IsCounted changed_condition []) };
  listed = refl;
  staged = (leb-true _ _ refl, (leb-true _ _ refl, (leb-true _ _ refl, tt)));
  ordered = ((leb-true _ _ refl, (leb-true _ _ refl, tt)), ((tt, tt), (tt, tt)));
  fitting = fitting_by (switch_with 2 2) (nth_size []) (placed_of changed_condition [] (put_at 0 0 0 ∷ put_at 1 0 1 ∷ put_at 2 0 1 ∷ [])) refl;
  header = leb-true _ _ refl;
}

blocks_fit : Feasible two_staged_blocks (switch_with 2 2) [] (put_at 0 0 0 ∷ put_at 1 0 1 ∷ [])
blocks_fit = record {
  sized = refl;
  assumed = record { compared = All-nil (Holds (symbols_of two_staged_blocks) []); counted = All-nil (IsCounted two_staged_blocks []) };
  listed = refl;
  staged = (leb-true _ _ refl, (leb-true _ _ refl, tt));
  ordered = ((leb-true _ _ refl, tt), (tt, tt));
  fitting = fitting_by (switch_with 2 2) (nth_size []) (placed_of two_staged_blocks [] (put_at 0 0 0 ∷ put_at 1 0 1 ∷ [])) refl;
  header = leb-true _ _ refl;
}

-- the copy would have to stand behind the one stage
no_copy : Infeasible set_then_copy (switch_with 1 2)
no_copy (size ∷ sizes) places feasible = let many : length (size ∷ sizes) ≡ 0 = feasible.sized in absurd (omega (arith, many))
no_copy [] [] feasible = let many : 0 ≡ 2 = ap length feasible.listed in absurd (omega (arith, many))
no_copy [] (one ∷ []) feasible = let many : 1 ≡ 2 = ap length feasible.listed in absurd (omega (arith, many))
no_copy [] (one ∷ other ∷ more) feasible =
    let last : other.stage < 1 = feasible.staged.1.0 in
    let rising : one.stage < other.stage = feasible.ordered.0.0 in
    absurd (omega (arith, last, rising))

pub orders : OrdersOnStages
orders = record {
  swapped = swapped;
  copied = λ ordered. (let h : 0 < 0 = ordered.0.0 in absurd (omega (arith, h)));
  no_copy = no_copy;
  condition_fits = condition_fits;
  condition_late = λ ordered. (let h : 1 < 1 = ordered.0.0 in absurd (omega (arith, h)));
  branch_early = λ ordered. (let h : 0 < 0 = ordered.0.1.0 in absurd (omega (arith, h)));
  blocks_fit = blocks_fit;
  blocks_turned = λ ordered. (let h : 1 < 0 = ordered.0.0 in absurd (omega (arith, h)));
}
