-- How long a text may be, so that its places fit 32 bits with room to spare; this project's own.
use Rattle.std.specs.Prelude.{ℕ}

-- the most bytes of a text
abbrev pub most_text : ℕ
most_text = 16777216
