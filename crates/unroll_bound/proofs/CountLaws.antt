-- The counts of instances.
use Rattle.std.proofs.Common.{◌≡◌, ℕ, ◌+◌, ◌*◌, Bool, true, false, cond, List, [], ◌∷◌, length, refl, sym, ◌∙◌, arith}
use Rattle.std.specs.Prelude.{filter, if◌then◌else◌}
use Rattle.elastic_ast.specs.Units.PlainUnits.{PlainUnit}
use Rattle.elastic_ast.specs.Units.Instances.{instances}
use Rattle.place_check.specs.Walking.{turns_of}
use Rattle.unroll_bound.specs.Counts.{is_symbolic, symbolic_turns, InstancesAreCounted}
use Rattle.unroll_bound.proofs.Totals.{total, sum_is_total}
use Rattle.unroll_bound.proofs.InstanceTotals.{turned_from, instances_total}

length_total : {A : Type 0} (xs : List A) → length xs ≡ total (λ x. 1) xs
length_total [] = refl
length_total (x ∷ xs) = omega (arith, length_total xs)

length_kept : {A : Type 0} (test : A → Bool) (xs : List A) → length (filter test xs) ≡ total (λ x. cond (test x) 1 0) xs
length_kept test [] = refl
length_kept {A} test (x ∷ xs) = go (test x) (length_kept test xs)
  where
    go : (v : Bool) → length (filter test xs) ≡ total (λ x. cond (test x) 1 0) xs → length (cond v (x ∷ filter test xs) (filter test xs)) ≡ cond v 1 0 + total (λ x. cond (test x) 1 0) xs
    go true e = omega (arith, e)
    go false e = omega (arith, e)

all_turns : (bounds : ℕ → ℕ) (number : ℕ) (units : List PlainUnit) → turned_from bounds (λ n unit. 1) number units ≡ total (λ unit. turns_of bounds unit.size) units
all_turns bounds number [] = refl
all_turns bounds number (unit ∷ units) = omega (arith, all_turns bounds (number + 1) units)

symbolic_turned : (bounds : ℕ → ℕ) (number : ℕ) (units : List PlainUnit) → turned_from bounds (λ n unit. cond (is_symbolic unit.cells) 1 0) number units ≡ total (symbolic_turns bounds) units
symbolic_turned bounds number [] = refl
symbolic_turned bounds number (unit ∷ units) = omega (arith, one (is_symbolic unit.cells) (turns_of bounds unit.size), symbolic_turned bounds (number + 1) units)
  where
    one : (v : Bool) (turns : ℕ) → turns * cond v 1 0 ≡ (if v then turns else 0)
    one true turns = omega arith
    one false turns = omega arith

pub instances_counted : InstancesAreCounted
instances_counted units bounds = record {
  all = length_total (instances units bounds) ∙ instances_total bounds (λ n unit. 1) units ∙ all_turns bounds 0 units ∙ sym (sum_is_total (λ unit. turns_of bounds unit.size) units);
  symbolic =
      length_kept (λ one. is_symbolic one.unit.cells) (instances units bounds) ∙ instances_total bounds (λ n unit. cond (is_symbolic unit.cells) 1 0) units ∙ symbolic_turned bounds 0 units
      ∙ sym (sum_is_total (symbolic_turns bounds) units);
}
