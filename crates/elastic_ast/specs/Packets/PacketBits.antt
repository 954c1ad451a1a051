-- Bytes as one number, and slices of it: the first bit is the highest (network order, as in P4-16 language specification
-- 1.2.3, its section on packet parsing).
use Rattle.std.specs.Prelude.{ℕ, zero, suc, ◌+◌, ◌-◌, ◌*◌, ◌/◌, ◌%◌, ◌^◌, List, [], ◌∷◌, length, fold}

-- bytes as one number, the first byte highest
abbrev pub number_of_bytes : List ℕ → ℕ
number_of_bytes bytes = fold (λ number byte. number * 256 + byte) 0 bytes

-- the number that `width` bits of the bytes make, from the bit `start` on
abbrev pub bits_at : List ℕ → ℕ → ℕ → ℕ
bits_at bytes start width = number_of_bytes bytes / 2 ^ (8 * length bytes - (start + width)) % 2 ^ width

-- a number as so many bytes, the first byte highest
abbrev pub bytes_of : ℕ → ℕ → List ℕ
bytes_of zero number = []
bytes_of (suc count) number = number / 256 ^ count % 256 ∷ bytes_of count number
