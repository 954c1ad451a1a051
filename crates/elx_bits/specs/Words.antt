-- Words of bits and what is computed with them: whole numbers below a power of two (P4-16 language specification 1.2.3,
-- section 8.6, and the casts between widths of its section on casts). A word of width `w` is a number below 2 to the `w`.
use Rattle.std.specs.Prelude.{◌≡◌, ◌≤◌, ◌<◌, ℕ, ◌+◌, ◌-◌, ◌*◌, ◌/◌, ◌%◌, ◌^◌}

-- the width and the value
abbrev pub BitWord : Type 0
BitWord = ℕ × ℕ

-- whole-number results, modulo 2 to the width
abbrev pub add : ℕ → ℕ → ℕ → ℕ
add width a b = (a + b) % 2 ^ width

abbrev pub sub : ℕ → ℕ → ℕ → ℕ
sub width a b = (a + (2 ^ width - b)) % 2 ^ width

abbrev pub mul : ℕ → ℕ → ℕ → ℕ
mul width a b = a * b % 2 ^ width

-- each bit turned
abbrev pub not : ℕ → ℕ → ℕ
not width a = 2 ^ width - 1 - a

-- times 2 to the amount, modulo 2 to the width: 0 from an amount of the width on
abbrev pub shl : ℕ → ℕ → ℕ → ℕ
shl width a by = a * 2 ^ by % 2 ^ width

-- divided by 2 to the amount, without the rest: 0 from an amount of the width on
abbrev pub shr : ℕ → ℕ → ℕ
shr a by = a / 2 ^ by

-- the bits of the one and, below them, those of the other, which has this width
abbrev pub cat : ℕ → ℕ → ℕ → ℕ
cat low_width a low = a * 2 ^ low_width + low

-- the bits from `low` to `high`, both included; the lowest bit has the number 0
abbrev pub slice : ℕ → ℕ → ℕ → ℕ
slice high low a = a / 2 ^ low % 2 ^ (high + 1 - low)

-- the lowest bits, or all with zeros above them
abbrev pub cast : ℕ → ℕ → ℕ
cast width a = a % 2 ^ width

-- a width from 1 to 128, and a number below 2 to the width
pub record IsWord (width value : ℕ) : Type 0 where
  pub positive : 1 ≤ width
  pub within : width ≤ 128
  pub fits : value < 2 ^ width

-- the amount of a shift, below the width
abbrev pub IsAmount : ℕ → ℕ → ℕ → Type 0
IsAmount width by amount = (amount ≡ by) × (amount < width)
