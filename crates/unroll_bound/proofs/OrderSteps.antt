-- The rows of orders over listed instances.
use Rattle.std.proofs.Common.{◌≡◌, ℕ, zero, suc, ◌+◌, ◌-◌, ◌<◌, ◌≤◌, List, [], ◌∷◌, take, drop, map, length, get_or, refl, sym, ap, ap₂, ◌∙◌, arith, subst, length-drop}
use Rattle.std.specs.Prelude.{sum_by}
use Rattle.std.proofs.lemmas.List.{length-map}
use Rattle.elastic_ast.specs.Units.PlainUnits.{PlainUnit}
use Rattle.elastic_ast.specs.Units.Instances.{pair_of, instances}
use Rattle.elastic_ast.specs.Units.Order.{order_of}
use Rattle.place_check.specs.Standing.{instance_at}
use Rattle.place_check.proofs.KnownLaws.{instances_named}
use Rattle.unroll_bound.specs.Counts.{instance_count, relation_rows, order_row_count}
use Rattle.unroll_bound.specs.OrderRows.{rows_of_pair, rows_of_pairs}
use Rattle.unroll_bound.proofs.CountLaws.{instances_counted}
use Rattle.unroll_bound.proofs.CountSteps.{sum_mapped}
use Rattle.unroll_bound.proofs.SymbolListLaws.{drop_before}

named_rows : (stages : ℕ) (units : List PlainUnit) (pairs : List (ℕ × ℕ)) → rows_of_pairs stages units pairs ≡ order_row_count stages (map (instance_at units) pairs)
named_rows stages units [] = refl
named_rows stages units (first ∷ rest) =
    ap₂ (λ (one other : ℕ). one + other) (sym (sum_mapped (λ later. relation_rows stages (order_of (instance_at units first) later)) (instance_at units) rest)) (named_rows stages units rest)

-- the rows of the listed instances are those of the instances
pub listed_rows : (stages : ℕ) (units : List PlainUnit) (sizes : ℕ → ℕ) (list : List (ℕ × ℕ)) → list ≡ map pair_of (instances units sizes) → rows_of_pairs stages units list ≡ order_row_count stages (instances units sizes)
listed_rows stages units sizes list e =
    ap (rows_of_pairs stages units) e ∙ named_rows stages units (map pair_of (instances units sizes)) ∙ ap (order_row_count stages) (instances_named units sizes).named

pub listed_count : (units : List PlainUnit) (sizes : ℕ → ℕ) (list : List (ℕ × ℕ)) → list ≡ map pair_of (instances units sizes) → length list ≡ instance_count units sizes
listed_count units sizes list e = ap length e ∙ length-map (instances units sizes) pair_of ∙ (instances_counted units sizes).all

-- one instance more from the end
pub rows_before : (stages : ℕ) (units : List PlainUnit) (list : List (ℕ × ℕ)) (i count amount : ℕ) (first : ℕ × ℕ) (rest : List (ℕ × ℕ)) → 0 < i → i ≤ length list → first ≡ get_or list (i - 1) first → rest ≡ drop i list
    → amount ≡ sum_by (rows_of_pair stages units first) rest → count ≡ rows_of_pairs stages units (drop i list) → count + amount ≡ rows_of_pairs stages units (drop (i - 1) list)
rows_before stages units list i count amount first rest h l e behind one before =
    step (sum_by (rows_of_pair stages units first) (drop i list)) (rows_of_pairs stages units (drop i list)) (one ∙ ap (sum_by (rows_of_pair stages units first)) behind) before
    ∙ sym (ap (rows_of_pairs stages units) (drop_before list i first h l e))
  where
    step : (this rest : ℕ) → amount ≡ this → count ≡ rest → count + amount ≡ this + rest
    step this rest a b = omega (arith, a, b)

pub rows_none : (stages : ℕ) (units : List PlainUnit) (list : List (ℕ × ℕ)) → 0 ≡ rows_of_pairs stages units (drop (length list) list)
rows_none stages units list = ap (rows_of_pairs stages units) (sym (past list))
  where
    past : {B : Type 0} (xs : List B) → drop (length xs) xs ≡ []
    past [] = refl
    past (x ∷ xs) = past xs

pub rows_whole : (stages : ℕ) (units : List PlainUnit) (list : List (ℕ × ℕ)) (i count : ℕ) → i ≡ 0 → count ≡ rows_of_pairs stages units (drop i list) → count ≡ rows_of_pairs stages units list
rows_whole stages units list i count e h = subst (λ (n : ℕ). count ≡ rows_of_pairs stages units (drop n list)) e h

take_whole : {A : Type 0} (xs : List A) (n : ℕ) → n ≡ length xs → take n xs ≡ xs
take_whole [] zero e = refl
take_whole [] (suc n) e = absurd (omega (arith, e))
take_whole (x ∷ xs) zero e = absurd (omega (arith, e))
take_whole (x ∷ xs) (suc n) e = ap (λ ys. x ∷ ys) (take_whole xs n (omega (arith, e)))

-- the slice from a place on
pub slice_from : {A : Type 0} (list : List A) (from place : ℕ) → from ≡ place → take (length list - from) (drop from list) ≡ drop place list
slice_from list from place e = take_whole (drop from list) (length list - from) (sym (length-drop from list)) ∙ ap (λ (n : ℕ). drop n list) e
