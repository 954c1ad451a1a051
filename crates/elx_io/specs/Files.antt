-- What a shelf holds: a finite map from names to bytes, and what a read and a write do to it. This project's own.
use Rattle.std.specs.Prelude.{◌≡◌, ◌≢◌, ℕ, ◌+◌, List, [], take, Option, Some, None, IfSome, option_map, unwrap_or}
use Rattle.std.specs.Ordering.{nat_cmp}
use Rattle.std.specs.Cmp.Lexicographic.{slice_cmp}
use Rattle.std.specs.FinMap.{FinMap, from_entries, get, insert}

-- the bytes of each file, by its name
abbrev pub Files : Type 0
Files = FinMap (slice_cmp nat_cmp) (List ℕ)

-- the files of a list of names and bytes: at a name that stands twice the first counts
abbrev pub files_of : List (List ℕ × List ℕ) → Files
files_of kept = from_entries kept

-- the bytes of one file, and none where there is no such file
abbrev pub bytes_at : Files → List ℕ → List ℕ
bytes_at files name = unwrap_or (get files name) []

-- a read gave the first bytes of a file, one more than a number at most, or all where there are fewer
abbrev pub IsReadOf : Option Files → List ℕ → ℕ → List ℕ → Type 0
IsReadOf held name most bytes = IfSome held (λ files. bytes ≡ take (most + 1) (bytes_at files name))

-- a write set one name to some bytes. Where the content was told it is told still
abbrev pub IsWritten : List ℕ → List ℕ → Option Files → Option Files → Type 0
IsWritten name bytes before now = now ≡ option_map (λ files. insert files name bytes) before

-- a write of one name that was refused: that name may hold anything, and every other name holds what it held. Where
-- the content was told it is told still
abbrev pub SameOthers : List ℕ → Option Files → Option Files → Type 0
SameOthers name None None = Unit {0}
SameOthers name (Some old) (Some new) = (other : List ℕ) → other ≢ name → get new other ≡ get old other
SameOthers name None (Some new) = ⊥
SameOthers name (Some old) None = ⊥
