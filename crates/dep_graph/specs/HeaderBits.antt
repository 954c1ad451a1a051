-- The header bits that a program takes at given sizes; this project's own.
use Rattle.std.specs.Prelude.{ℕ, ◌+◌, ◌*◌, List, [], ◌∷◌}
use Rattle.elastic_ast.specs.Tree.{PlainDecl}
use Rattle.elastic_ast.specs.Units.UnitsOf.{fixed_bits, symbol_bits}

-- a number of bits for each symbol, times the symbol's size, added up
abbrev pub weighed : List ℕ → List ℕ → ℕ
weighed [] sizes = 0
weighed (bits ∷ rest) [] = 0
weighed (bits ∷ rest) (size ∷ sizes) = bits * size + weighed rest sizes

-- the bits that the program takes at all sizes, and for each symbol those of one more of it, as often as its size says
abbrev pub header_bits : List PlainDecl → List ℕ → ℕ
header_bits decls sizes = fixed_bits decls + weighed (symbol_bits decls) sizes
