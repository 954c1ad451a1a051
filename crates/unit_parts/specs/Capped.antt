-- Numbers that are kept in 32 bits: one that doesn't fit is the greatest that does; this project's own.
use Rattle.std.specs.Prelude.{ℕ, ◌-◌, ◌^◌, min}

abbrev pub most_kept : ℕ
most_kept = 2 ^ 32 - 1

abbrev pub capped : ℕ → ℕ
capped number = min number most_kept
