-- The hash of a value, this project's own: two rounds of multiplication over the halves of the value, modulo 2 to the 64.
use Rattle.std.specs.Prelude.{ℕ, ◌+◌, ◌*◌, ◌/◌, ◌%◌, ◌^◌, bit_xor}

-- a number of 64 bits, mixed: its high half is turned into its low half, and the whole is multiplied
abbrev pub mixed : ℕ → ℕ
mixed a = bit_xor a (a / 2 ^ 32) * 0xD6E8FEB86659FD93 % 2 ^ 64

-- the low half of the value, moved by the number of the hash
abbrev pub started : ℕ → ℕ → ℕ
started k x = (x % 2 ^ 64 + (k + 1) * 0x9E3779B97F4A7C15) % 2 ^ 64

-- the hash with number k of the value x, below n
abbrev pub hashed : ℕ → ℕ → ℕ → ℕ
hashed k x n = mixed ((mixed (started k x) + x / 2 ^ 64) % 2 ^ 64) / 2 ^ 32 % n
