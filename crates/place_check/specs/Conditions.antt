-- What is asked of units, sizes and placements so that sums stay within 128 bits; this project's own.
use Rattle.std.specs.Prelude.{◌≡◌, ℕ, ◌≤◌, List, length, All}
use Rattle.elastic_ast.specs.declared.flat.Units.{Units}
use Rattle.size_terms.specs.Rows.{AreShort}

-- the greatest size, which is 2 to the power of 32
abbrev pub most_size : ℕ
most_size = 4294967296

-- how many instances stand in a placement at most, and how many symbols there are, whose numbers have 32 bits
abbrev pub most_instances : ℕ
most_instances = 4294967295

abbrev pub most_symbols : ℕ
most_symbols = 4294967296

abbrev pub AreSmall : List ℕ → Type 0
AreSmall sizes = All (λ size. size ≤ most_size) sizes

-- the terms are short, and the number of a symbol fits 32 bits
pub record AreSound (units : Units) : Type 0 where
  pub short : AreShort units.terms
  pub numbered : length units.terms.symbols ≤ most_symbols

-- there is one size a symbol, and none is above the greatest
pub record AreSizesOf (units : Units) (sizes : List ℕ) : Type 0 where
  pub sized : length sizes ≡ length units.terms.symbols
  pub small : AreSmall sizes
