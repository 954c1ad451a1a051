-- How large the sums of checked programs get: the most terms, each of the greatest number; this project's own.
use Rattle.std.specs.Prelude.{ℕ}

-- what the absolute values of a sum's numbers come to at most, on one side or on both together
abbrev pub most_bulk : ℕ
most_bulk = 64000000000

-- the greatest number on the right of a row, which may be one more
abbrev pub most_right_side : ℕ
most_right_side = 64000000001
