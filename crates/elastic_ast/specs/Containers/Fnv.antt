-- The hash FNV-1a of 64 bits over a list of bytes (Fowler, Noll and Vo, the offset and the prime of 64 bits).
use Rattle.std.specs.Prelude.{ℕ, ◌*◌, ◌%◌, ◌^◌, List, fold, bit_xor}

-- what a hash begins with
abbrev pub fnv_start : ℕ
fnv_start = 0xcbf29ce484222325

-- one more byte
abbrev pub fnv_step : ℕ → ℕ → ℕ
fnv_step state byte = bit_xor state byte * 0x100000001b3 % 2 ^ 64

-- the bytes from the first to the last
abbrev pub fnv : ℕ → List ℕ → ℕ
fnv state bytes = fold fnv_step state bytes
