-- The last place of a number: one more number at the end, and what the answer says of each place.
use Rattle.std.proofs.Common.{◌≡◌, ◌≢◌, ◌==◌, ◌<◌, ◌≤◌, ℕ, zero, suc, ◌+◌, Bool, true, false, List, [], ◌∷◌, ◌++◌, length, get_or, Option, Some, None, refl, sym, ap, subst, ◌∙◌, arith, true≢false, eq-eqb}
use Rattle.std.proofs.lemmas.Bool.{eqb-true}
use Rattle.std.specs.Prelude.{if◌then◌else◌}
use Rattle.elastic_ast.specs.Containers.LastWith.{last_with, after_first}

pub last_with-push : (n : ℕ) (xs : List ℕ) (x : ℕ) → last_with n (xs ++ x ∷ []) ≡ (if x == n then Some (length xs) else last_with n xs)
last_with-push n [] x = refl
last_with-push n (y ∷ ys) x = ap (after_first (y == n)) (last_with-push n ys x) ∙ moved (x == n)
  where
    moved : (b : Bool) → after_first (y == n) (if b then Some (length ys) else last_with n ys) ≡ (if b then Some (length (y ∷ ys)) else after_first (y == n) (last_with n ys))
    moved true = ap Some (omega arith)
    moved false = refl

-- no place has the number
pub absent : (n : ℕ) (xs : List ℕ) → last_with n xs ≡ None → (k : ℕ) → k < length xs → get_or xs k 0 ≢ n
absent n [] h k lt = absurd (omega arith)
absent n (x ∷ xs) h k lt = by (x == n) (last_with n xs) refl refl h (absent n xs) k lt
  where
    by : (b : Bool) (o : Option ℕ) → (x == n) ≡ b → last_with n xs ≡ o → after_first b o ≡ None → (last_with n xs ≡ None → (k : ℕ) → k < length xs → get_or xs k 0 ≢ n) → (k : ℕ) → k < length (x ∷ xs) → get_or (x ∷ xs) k 0 ≢ n
    by b (Some p) e f g ih k lt = cc
    by true None e f g ih k lt = cc
    by false None e f g ih zero lt = λ same. true≢false (sym (eq-eqb x n same) ∙ e)
    by false None e f g ih (suc k) lt = ih f k (omega arith)

-- a place has the number, and none above it
pub record IsLast (n : ℕ) (xs : List ℕ) (p : ℕ) : Type 0 where
  pub within : p < length xs
  pub there : get_or xs p 0 ≡ n
  pub above : (k : ℕ) → p < k → k < length xs → get_or xs k 0 ≢ n

moved : (n x : ℕ) (xs : List ℕ) (p : ℕ) → IsLast n xs p → IsLast n (x ∷ xs) (suc p)
moved n x xs p l = record { within = omega arith; there = l.there; above = above }
  where
    above : (k : ℕ) → suc p < k → k < length (x ∷ xs) → get_or (x ∷ xs) k 0 ≢ n
    above zero gt lt = absurd (omega arith)
    above (suc k) gt lt = l.above k (omega arith) (omega arith)

at_first : (n x : ℕ) (xs : List ℕ) → (x == n) ≡ true → ((k : ℕ) → k < length xs → get_or xs k 0 ≢ n) → IsLast n (x ∷ xs) 0
at_first n x xs e none = record { within = omega arith; there = eqb-true x n e; above = above }
  where
    above : (k : ℕ) → 0 < k → k < length (x ∷ xs) → get_or (x ∷ xs) k 0 ≢ n
    above zero gt lt = absurd (omega arith)
    above (suc k) gt lt = none k (omega arith)

pub found : (n : ℕ) (xs : List ℕ) (p : ℕ) → last_with n xs ≡ Some p → IsLast n xs p
found n [] p h = cc
found n (x ∷ xs) p h = by (x == n) (last_with n xs) refl refl h (found n xs)
  where
    by : (b : Bool) (o : Option ℕ) → (x == n) ≡ b → last_with n xs ≡ o → after_first b o ≡ Some p → ((q : ℕ) → last_with n xs ≡ Some q → IsLast n xs q) → IsLast n (x ∷ xs) p
    by b (Some q) e f g ih = let at : suc q ≡ p = let one : q + 1 ≡ p = cc in omega arith in subst (λ z. IsLast n (x ∷ xs) z) at (moved n x xs q (ih q f))
    by true None e f g ih = let at : 0 ≡ p = cc in subst (λ z. IsLast n (x ∷ xs) z) at (at_first n x xs e (absent n xs f))
    by false None e f g ih = cc

-- every place with the number is at or below the last one
pub at_most : (n : ℕ) (xs : List ℕ) (p k : ℕ) → IsLast n xs p → k < length xs → get_or xs k 0 ≡ n → k ≤ p
at_most n xs p k l lt same = let no : p < k → ⊥ = λ gt. l.above k gt lt same in omega arith
