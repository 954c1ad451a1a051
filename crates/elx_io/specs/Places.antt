-- Where a list of files has a name first. This project's own.
use Rattle.std.specs.Prelude.{ℕ, Bool, List, Option, position}
use Rattle.std.specs.Str.{bytes_eq}

-- the entry has that name
abbrev pub is_named : List ℕ → List ℕ × List ℕ → Bool
is_named name entry = bytes_eq name entry.0

-- the first place of a name, or None where no entry has it
abbrev pub place_in : List (List ℕ × List ℕ) → List ℕ → Option ℕ
place_in kept name = position (is_named name) kept
