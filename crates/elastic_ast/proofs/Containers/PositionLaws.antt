-- The first place that passes a test, from what the test says of each place.
use Rattle.std.proofs.Common.{◌≡◌, ◌<◌, ℕ, zero, suc, ◌+◌, cond, Bool, true, false, List, [], ◌∷◌, length, get_or, Some, None, refl, sym, ap, ◌∙◌, arith}
use Rattle.std.specs.List.{position, position_from}
use Rattle.std.proofs.lemmas.Iterator.Adapters.{position_from-zero}

from_is : {X : Type 0} (p : X → Bool) (xs : List X) (s i : ℕ) (d : X) → i < length xs → p (get_or xs i d) ≡ true → ((k : ℕ) → k < i → p (get_or xs k d) ≡ false) → position_from p s xs ≡ Some (s + i)
from_is p [] s i d lt t before = absurd (omega arith)
from_is p (x ∷ xs) s zero d lt t before = rw t (ap Some (omega arith))
from_is p (x ∷ xs) s (suc i) d lt t before =
    let none : p x ≡ false = before 0 (omega arith) in
    let rest = from_is p xs (s + 1) i d (omega arith) t (λ k l. before (suc k) (omega arith)) in
    rw none (rest ∙ ap Some (omega arith))

from_none : {X : Type 0} (p : X → Bool) (xs : List X) (s : ℕ) (d : X) → ((k : ℕ) → k < length xs → p (get_or xs k d) ≡ false) → position_from p s xs ≡ None
from_none p [] s d never = refl
from_none p (x ∷ xs) s d never =
    let none : p x ≡ false = never 0 (omega arith) in
    rw none (from_none p xs (s + 1) d (λ k l. never (suc k) (omega arith)))

none_from : {X : Type 0} (p : X → Bool) (xs : List X) (s : ℕ) (d : X) → position_from p s xs ≡ None → (k : ℕ) → k < length xs → p (get_or xs k d) ≡ false
none_from p [] s d none k lt = absurd (omega arith)
none_from {X} p (x ∷ xs) s d none k lt = by (p x) refl none (none_from p xs (s + 1) d) k lt
  where
    by : (b : Bool) → p x ≡ b → cond b (Some s) (position_from p (s + 1) xs) ≡ None → (position_from p (s + 1) xs ≡ None → (k : ℕ) → k < length xs → p (get_or xs k d) ≡ false) → (k : ℕ) → k < length (x ∷ xs) → p (get_or (x ∷ xs) k d) ≡ false
    by true e f ih k lt = cc
    by false e f ih zero lt = e
    by false e f ih (suc k) lt = ih f k (omega arith)

pub position_is : {X : Type 0} (p : X → Bool) (xs : List X) (i : ℕ) (d : X) → i < length xs → p (get_or xs i d) ≡ true → ((k : ℕ) → k < i → p (get_or xs k d) ≡ false) → position p xs ≡ Some i
position_is p xs i d lt t before = position_from-zero p xs ∙ from_is p xs 0 i d lt t before ∙ ap Some (omega arith)

pub position_none : {X : Type 0} (p : X → Bool) (xs : List X) (d : X) → ((k : ℕ) → k < length xs → p (get_or xs k d) ≡ false) → position p xs ≡ None
position_none p xs d never = position_from-zero p xs ∙ from_none p xs 0 d never

pub none_position : {X : Type 0} (p : X → Bool) (xs : List X) (d : X) → position p xs ≡ None → (k : ℕ) → k < length xs → p (get_or xs k d) ≡ false
none_position p xs d none = none_from p xs 0 d (sym (position_from-zero p xs) ∙ none)
