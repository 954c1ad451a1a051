-- The last place of a number in a list of numbers, and a place of a number that passes a test. This project's own.
use Rattle.std.specs.Prelude.{◌≡◌, ◌<◌, ℕ, ◌+◌, ◌==◌, if◌then◌else◌, Bool, true, false, List, [], ◌∷◌, length, get_or, Option, Some, None}

-- the last place in a list, from that in the rest of it and from whether the first one will do
abbrev pub after_first : Bool → Option ℕ → Option ℕ
after_first here (Some place) = Some (place + 1)
after_first here None = if here then Some 0 else None

-- the greatest place at which the list has this number, and None where it doesn't have it
abbrev pub last_with : ℕ → List ℕ → Option ℕ
last_with n [] = None
last_with n (x ∷ xs) = after_first (x == n) (last_with n xs)

-- a place passes a test, or each place of the number fails it; `Test` says what the test answers at a place
pub data IsPassing (Test : ℕ → Bool → Type 0) (xs : List ℕ) (n : ℕ) : Option ℕ → Type 0 where
  Passes : (place : ℕ) → place < length xs → Test place true → IsPassing Test xs n (Some place)
  AllFail : ((place : ℕ) → place < length xs → get_or xs place 0 ≡ n → Test place false) → IsPassing Test xs n None
