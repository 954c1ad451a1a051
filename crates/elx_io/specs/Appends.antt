-- What is appended to a list that may be told, as the bytes of a sink or the calls of a shelf. This project's own.
use Rattle.std.specs.Prelude.{◌≡◌, ℕ, ◌≤◌, List, ◌++◌, length, take, Option, Some, None, option_map}

-- a piece was appended. Where the list was told it is told still
abbrev pub Appends : {A : Type 0} → List A → Option (List A) → Option (List A) → Type 0
Appends piece before now = now ≡ option_map (λ old. old ++ piece) before

-- some front of the piece was appended. Where the list was told it is told still
abbrev pub AppendsFront : List ℕ → Option (List ℕ) → Option (List ℕ) → Type 0
AppendsFront piece None None = Unit {0}
AppendsFront piece (Some old) (Some new) = (n : ℕ) × (n ≤ length piece) × (new ≡ old ++ take n piece)
AppendsFront piece None (Some new) = ⊥
AppendsFront piece (Some old) None = ⊥
