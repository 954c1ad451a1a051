-- What holds of placements of two rows of a count-min sketch.
use Rattle.std.proofs.Common.{◌≡◌, zero, suc, ◌<◌, ◌≤◌, [], ◌∷◌, length, All, refl, ap, arith, pos}
use Rattle.std.specs.Prelude.{◌≤ℤ◌}
use Rattle.std.proofs.lemmas.Bool.{leb-true}
use Rattle.std.proofs.lemmas.Int.{ints}
use Rattle.elastic_ast.specs.Sizes.SizeSums.{Compared, IsCounted}
use Rattle.elastic_ast.specs.Sizes.Counted.{counted_symbols}
use Rattle.elastic_ast.specs.Units.Instances.{nth_size}
use Rattle.elastic_laws.specs.Examples.WorkedSources.{count_min_sketch}
use Rattle.dep_graph.specs.declared.resource.Resource.TheVariants as resource
use Rattle.dep_graph.specs.Feasible.{Feasible, placed_of}
use Rattle.placement_examples.specs.WorkedTargets.{switch_with, two_rows}
use Rattle.placement_examples.specs.WorkedPlacements.{RowsOnStages}
use Rattle.placement_examples.proofs.FittingTest.{fitting_by}

compared : Compared count_min_sketch (2 ∷ 32 ∷ [])
compared zero d lt = let h : pos 1 ≤ℤ pos 2 = omega (arith, ints) in h
compared (suc k) d lt = absurd (omega (arith, lt))

counted : All (IsCounted count_min_sketch (2 ∷ 32 ∷ [])) (counted_symbols count_min_sketch)
counted zero d lt = leb-true _ _ refl
counted (suc zero) d lt = leb-true _ _ refl
counted (suc (suc k)) d lt = absurd (omega (arith, lt))

fit : Feasible count_min_sketch (switch_with 3 1) (2 ∷ 32 ∷ []) (two_rows 0 0 1 1 2)
fit = record {
  sized = refl;
  assumed = record { compared = compared; counted = counted };
  listed = refl;
  staged = (leb-true _ _ refl, (leb-true _ _ refl, (leb-true _ _ refl, (leb-true _ _ refl, (leb-true _ _ refl, tt)))));
  ordered = (
    (tt, (leb-true _ _ refl, (tt, (leb-true _ _ refl, tt)))),
    (
      (leb-true _ _ refl, (tt, (tt, tt))),
      (
        (tt, (leb-true _ _ refl, tt)),
        ((leb-true _ _ refl, tt), (tt, tt)),
      ),
    ),
  );
  fitting = fitting_by (switch_with 3 1) (nth_size (2 ∷ 32 ∷ [])) (placed_of count_min_sketch (2 ∷ 32 ∷ []) (two_rows 0 0 1 1 2)) refl;
  header = leb-true _ _ refl;
}

pub rows : RowsOnStages
rows = record {
  fit = fit;
  compared_at_once = λ ordered. (let h : 1 < 1 = ordered.1.1.0.1.0 in absurd (omega (arith, h)));
  started_late = λ ordered. (let h : 2 < 2 = ordered.0.1.0 in absurd (omega (arith, h)));
  turned = λ ordered. (let h : 2 < 1 = ordered.1.1.0.1.0 in absurd (omega (arith, h)));
  counted_late = λ ordered. (let h : 1 < 1 = ordered.1.0.0 in absurd (omega (arith, h)));
  two_registers = λ fitting. (let h : 2 ≤ 1 = fitting 0 (leb-true _ _ refl) resource.Stateful in absurd (omega (arith, h)));
  many_columns = λ fitting. (let h : 1056 ≤ 1024 = fitting 0 (leb-true _ _ refl) resource.Memory in absurd (omega (arith, h)));
  no_fourth = λ staged. (let h : 3 < 3 = staged.1.1.1.1.0 in absurd (omega (arith, h)));
  row_left_out = λ listed. (let many : 4 ≡ 5 = ap length listed in absurd (omega (arith, many)));
}
