-- The numbers of the language, each in one place: widths that are fixed, and limits; this project's own.
use Rattle.std.specs.Prelude.{ℕ}

-- a value has at most so many bits
abbrev pub most_width : ℕ
most_width = 128

-- a number in an assume clause or the utility, of cells or as a modulus, is at most this
abbrev pub most_number : ℕ
most_number = 1000000000

-- a comparison or the utility has at most so many terms, and a step table so many keys
abbrev pub most_terms : ℕ
most_terms = 64

-- the size of a table is at most this
abbrev pub most_entries : ℕ
most_entries = 1000000

-- bits of the number of a cell
abbrev pub cell_number_width : ℕ
cell_number_width = 32

-- bits of a hash
abbrev pub hash_width : ℕ
hash_width = 32

-- bits of a port
abbrev pub port_width : ℕ
port_width = 16
