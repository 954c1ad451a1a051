-- Sums over lists, one element more from the end, and counts of loops, one symbol more.
use Rattle.std.proofs.Common.{◌≡◌, ℕ, zero, suc, ◌+◌, ◌-◌, ◌*◌, ◌<◌, ◌≤◌, Bool, true, false, List, [], ◌∷◌, drop, map, length, get_or, Option, Some, None, refl, sym, ap, ◌∙◌, arith, subst}
use Rattle.std.specs.Prelude.{sum_by, if◌then◌else◌}
use Rattle.std.proofs.lemmas.List.Sums.{sum_by-cons, sum_by-append}
use Rattle.std.proofs.lemmas.List.Elements.{filter-append}
use Rattle.elastic_ast.specs.Units.PlainUnits.{PlainUnit}
use Rattle.elastic_ast.specs.Units.Instances.{nth_size}
use Rattle.place_check.specs.Walking.{turns_of}
use Rattle.unroll_bound.specs.BoundAnswers.{most_bound, AreSmallBounds}
use Rattle.unroll_bound.specs.Counts.{instance_count, symbolic_count, symbolic_turns, is_symbolic, is_looped, looped_below, numbers_below}
use Rattle.unroll_bound.proofs.SymbolListLaws.{drop_before}

module _ {A : Type 0} (f : A → ℕ) (xs : List A) where
  -- one element more from the end
  pub sum_before : (i count amount : ℕ) (x : A) → 0 < i → i ≤ length xs → x ≡ get_or xs (i - 1) x → amount ≡ f x → count ≡ sum_by f (drop i xs) → count + amount ≡ sum_by f (drop (i - 1) xs)
  sum_before i count amount x h l e one before = step (f x) (sum_by f (drop i xs)) one before ∙ sym (sum_by-cons f x (drop i xs)) ∙ sym (ap (sum_by f) (drop_before xs i x h l e))
    where
      step : (this rest : ℕ) → amount ≡ this → count ≡ rest → count + amount ≡ this + rest
      step this rest a b = omega (arith, a, b)

  pub sum_none : 0 ≡ sum_by f (drop (length xs) xs)
  sum_none = ap (sum_by f) (sym (past xs))
    where
      past : {B : Type 0} (xs : List B) → drop (length xs) xs ≡ []
      past [] = refl
      past (x ∷ xs) = past xs

  pub sum_whole : (i count : ℕ) → i ≡ 0 → count ≡ sum_by f (drop i xs) → count ≡ sum_by f xs
  sum_whole i count e h = subst (λ (n : ℕ). count ≡ sum_by f (drop n xs)) e h

pub sum_mapped : {A B : Type 0} (f : B → ℕ) (g : A → B) (xs : List A) → sum_by f (map g xs) ≡ sum_by (λ x. f (g x)) xs
sum_mapped f g [] = refl
sum_mapped f g (x ∷ xs) = sum_by-cons f (g x) (map g xs) ∙ ap (λ n. f (g x) + n) (sum_mapped f g xs) ∙ sym (sum_by-cons (λ x. f (g x)) x xs)

-- one symbol more
pub looped_more : (f : ℕ → ℕ) (units : List PlainUnit) (symbol count amount : ℕ) (looped : Bool) → looped ≡ is_looped units symbol → amount ≡ (if looped then f symbol else 0)
    → count ≡ sum_by f (looped_below units symbol) → count + amount ≡ sum_by f (looped_below units (symbol + 1))
looped_more f units symbol count amount looped e one before =
    ap (λ (n : ℕ). n + amount) before
    ∙ ap (λ (n : ℕ). sum_by f (looped_below units symbol) + n) one
    ∙ ap (λ (v : Bool). sum_by f (looped_below units symbol) + (if v then f symbol else 0)) e
    ∙ by (is_looped units symbol)
    ∙ sym (sum_by-append f (looped_below units symbol) (if is_looped units symbol then symbol ∷ [] else []))
    ∙ sym (ap (sum_by f) (filter-append (is_looped units) (numbers_below symbol) (symbol ∷ [])))
    ∙ ap (λ (n : ℕ). sum_by f (looped_below units n)) (let plus : suc symbol ≡ symbol + 1 = omega arith in plus)
  where
    by : (v : Bool) → sum_by f (looped_below units symbol) + (if v then f symbol else 0) ≡ sum_by f (looped_below units symbol) + sum_by f (if v then symbol ∷ [] else [])
    by true = let e : f symbol ≡ 0 + f symbol = omega arith in ap (λ (n : ℕ). sum_by f (looped_below units symbol) + n) e
    by false = refl

-- no bound is great
pub small_bound : (bounds : List ℕ) (symbol : ℕ) → AreSmallBounds bounds → nth_size bounds symbol ≤ most_bound
small_bound [] symbol h = omega arith
small_bound (bound ∷ bounds) zero h = h 0 0 (omega arith)
small_bound (bound ∷ bounds) (suc symbol) h = small_bound bounds symbol (λ k d lt. h (suc k) d (omega arith))

pub small_turns : (bounds : List ℕ) (size : Option ℕ) → AreSmallBounds bounds → turns_of (nth_size bounds) size ≤ most_bound
small_turns bounds None h = omega arith
small_turns bounds (Some symbol) h = small_bound bounds symbol h

sum_small : {A : Type 0} (f : A → ℕ) (most : ℕ) → ((x : A) → f x ≤ most) → (xs : List A) → sum_by f xs ≤ length xs * most
sum_small f most h [] = omega arith
sum_small f most h (x ∷ xs) = omega (arith, sum_by-cons f x xs, h x, sum_small f most h xs)

pub small_instances : (bounds : List ℕ) (units : List PlainUnit) → AreSmallBounds bounds → instance_count units (nth_size bounds) ≤ length units * most_bound
small_instances bounds units h = sum_small (λ (unit : PlainUnit). turns_of (nth_size bounds) unit.size) most_bound (λ unit. small_turns bounds unit.size h) units

pub small_symbolic : (bounds : List ℕ) (units : List PlainUnit) → AreSmallBounds bounds → symbolic_count units (nth_size bounds) ≤ length units * most_bound
small_symbolic bounds units h = sum_small (symbolic_turns (nth_size bounds)) most_bound (λ unit. by (is_symbolic unit.cells) unit.size) units
  where
    by : (v : Bool) (size : Option ℕ) → (if v then turns_of (nth_size bounds) size else 0) ≤ most_bound
    by true size = small_turns bounds size h
    by false size = omega arith
