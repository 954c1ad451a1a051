-- What is read of a whole file; this project's own.
use Rattle.std.specs.Prelude.{◌≡◌, ◌<◌, ◌≤◌, ℕ, List, length, Option, Some, None, IfSome}
use Rattle.elx_io.specs.Files.{Files, bytes_at}

-- the bytes of the file, or that it has more than a number
abbrev pub IsFileRead : ℕ → List ℕ → Option (List ℕ) → Type 0
IsFileRead most bytes None = most < length bytes
IsFileRead most bytes (Some read) = (read ≡ bytes) × (length bytes ≤ most)

-- a file holds bytes of which something is so. They are what the shelf holds of it, where it tells that
pub record IsOfFile (held : Option Files) (name : List ℕ) (Holds : List ℕ → Type 0) : Type 0 where
  pub bytes : List ℕ
  pub held_there : IfSome held (λ files. bytes ≡ bytes_at files name)
  pub so : Holds bytes
