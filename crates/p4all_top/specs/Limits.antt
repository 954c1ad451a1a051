-- How long the files of a command may be; this project's own.
use Rattle.std.specs.Prelude.{ℕ, ◌≤◌, List, length}
use Rattle.p4_lexer.specs.TextLimit.{most_text}

-- the most bytes of a source
abbrev pub most_source : ℕ
most_source = most_text

-- the most bytes of a target's description
abbrev pub most_target : ℕ
most_target = 65536

-- the most splits of boxes that `size` makes
abbrev pub size_splits : ℕ
size_splits = 100000

-- a text is taken: it has no more bytes than it may have, and says this
pub record IsTaken {A : Type 0} (most : ℕ) (Says : List ℕ → A → Type 0) (text : List ℕ) (x : A) : Type 0 where
  pub short : length text ≤ most
  pub says : Says text x
