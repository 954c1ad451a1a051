-- What holds of placements of two registers whose cells are chosen.
use Rattle.std.proofs.Common.{◌≡◌, ℕ, zero, suc, ◌+◌, ◌*◌, ◌<◌, ◌≤◌, List, [], ◌∷◌, length, get_or, All, refl, ap, arith, pos}
use Rattle.std.specs.Prelude.{codes, ◌≤ℤ◌, if◌then◌else◌, ◌==◌}
use Rattle.std.proofs.lemmas.Bool.{leb-true}
use Rattle.std.proofs.lemmas.Int.{ints}
use Rattle.elastic_ast.specs.declared.declarations.Comp.{Comp}
use Rattle.elastic_ast.specs.declared.declarations.Rel.TheVariants as rel
use Rattle.elastic_ast.specs.declared.flat.At.{At}
use Rattle.elastic_ast.specs.Sizes.SizeSums.{Compared, IsCounted, utility}
use Rattle.elastic_ast.specs.Sizes.Counted.{counted_symbols}
use Rattle.elastic_ast.specs.Units.Instances.{nth_size}
use Rattle.elastic_laws.specs.Examples.WorkedSources.{number, times, two_register_arrays}
use Rattle.dep_graph.specs.declared.resource.Resource.TheVariants as resource
use Rattle.dep_graph.specs.Feasible.{Feasible, placed_of}
use Rattle.placement_examples.specs.WorkedTargets.{switch_with, both_first}
use Rattle.placement_examples.proofs.FittingTest.{fitting_by}
use Rattle.placement_examples.specs.WorkedPlacements.{ArraysOnOneStage, Fitting}

-- `b >= 5`
abbrev clause : Comp
clause = record { left = times 1 (codes "b") ∷ []; rel = rel.Ge; right = number 5 ∷ [] }

compared : Compared two_register_arrays (27 ∷ 5 ∷ [])
compared zero d lt = let h : pos 5 ≤ℤ pos 5 = omega (arith, ints) in h
compared (suc k) d lt = absurd (omega (arith, lt))

counted : All (IsCounted two_register_arrays (27 ∷ 5 ∷ [])) (counted_symbols two_register_arrays)
counted zero d lt = leb-true _ _ refl
counted (suc zero) d lt = leb-true _ _ refl
counted (suc (suc k)) d lt = absurd (omega (arith, lt))

fits : Feasible two_register_arrays (switch_with 1 2) (27 ∷ 5 ∷ []) both_first
fits = record {
  sized = refl;
  assumed = record { compared = compared; counted = counted };
  listed = refl;
  staged = (leb-true _ _ refl, (leb-true _ _ refl, tt));
  ordered = ((tt, tt), (tt, tt));
  fitting = fitting_by (switch_with 1 2) (nth_size (27 ∷ 5 ∷ [])) (placed_of two_register_arrays (27 ∷ 5 ∷ []) both_first) refl;
  header = leb-true _ _ refl;
}

over : ¬ Fitting two_register_arrays (switch_with 1 2) (28 ∷ 5 ∷ []) both_first
over fit = let more : 1056 ≤ 1024 = fit 0 (leb-true _ _ refl) resource.Memory in absurd (omega (arith, more))

-- the memory of the stage and the least size of the second decide
most_worth : (a b : ℕ) → 5 ≤ b → a * 32 + b * 32 ≤ 1024 → 3 * a + 2 * b ≤ 91
most_worth a b least memory = omega (arith, least, memory)

-- both instances stand in the one stage, and so take all of its memory
memory_of_both : (a b one other : ℕ) → one < 1 → other < 1 → (if one == 0 then a * 32 else 0) + ((if other == 0 then b * 32 else 0) + 0) ≤ 1024 → a * 32 + b * 32 ≤ 1024
memory_of_both a b zero zero first second h = omega (arith, h)
memory_of_both a b zero (suc other) first second h = absurd (omega (arith, second))
memory_of_both a b (suc one) other first second h = absurd (omega (arith, first))

most : (sizes : List ℕ) (places : List At) → Feasible two_register_arrays (switch_with 1 2) sizes places → utility two_register_arrays sizes ≤ℤ utility two_register_arrays (27 ∷ 5 ∷ [])
most [] places feasible = absurd (let many : 0 ≡ 2 = feasible.sized in omega (arith, many))
most (a ∷ []) places feasible = absurd (let many : 1 ≡ 2 = feasible.sized in omega (arith, many))
most (a ∷ b ∷ c ∷ sizes) places feasible = absurd (let many : suc (suc (suc (length sizes))) ≡ 2 = feasible.sized in omega (arith, many))
most (a ∷ b ∷ []) places feasible = by places feasible
  where
    by : (places : List At) → Feasible two_register_arrays (switch_with 1 2) (a ∷ b ∷ []) places → utility two_register_arrays (a ∷ b ∷ []) ≤ℤ utility two_register_arrays (27 ∷ 5 ∷ [])
    by [] feasible = absurd (let many : 0 ≡ 2 = ap length feasible.listed in omega (arith, many))
    by (one ∷ []) feasible = absurd (let many : 1 ≡ 2 = ap length feasible.listed in omega (arith, many))
    by (one ∷ other ∷ more) feasible =
        let least : pos 5 ≤ℤ pos (1 * b + 0) = feasible.assumed.compared 0 clause (leb-true _ _ refl) in
        let memory = memory_of_both a b one.stage other.stage feasible.staged.0 feasible.staged.1.0 (feasible.fitting 0 (leb-true _ _ refl) resource.Memory) in
        let worth = most_worth a b (omega (arith, ints, least)) memory in
        let most : pos (3 * a + (2 * b + 0)) ≤ℤ pos 91 = omega (arith, ints, worth) in most

pub arrays : ArraysOnOneStage
arrays = record {
  fits = fits;
  is_best = record { feasible = fits; most = most };
  over = over;
  terms = λ assumed. (let h : pos 5 ≤ℤ pos 4 = assumed.compared 0 clause (leb-true _ _ refl) in absurd (omega (arith, ints, h)));
  short = λ e. (let many : 1 ≡ 2 = ap length e in absurd (omega (arith, many)));
  long = λ e. (let many : 3 ≡ 2 = ap length e in absurd (omega (arith, many)));
  other_index = λ e. (let index : 1 ≡ 0 = ap (λ (pairs : List (ℕ × ℕ)). (get_or {A = ℕ × ℕ} pairs 0 (0, 0)).1) e in absurd (omega (arith, index)));
  other_unit = λ e. (let unit : 2 ≡ 1 = ap (λ (pairs : List (ℕ × ℕ)). (get_or {A = ℕ × ℕ} pairs 1 (0, 0)).0) e in absurd (omega (arith, unit)));
  no_stage = λ staged. (let h : 1 < 1 = staged.0 in absurd (omega (arith, h)));
}
