-- What is known of the units of a typed program, with its terms, beside what they are; this project's own.
use Rattle.std.specs.Prelude.{◌≡◌, ℕ, ◌<◌, ◌≤◌, nat_eq, true, List, [], ◌∷◌, length, All, Option, Some, None}
use Rattle.std.specs.List.{list_any}
use Rattle.elastic_ast.specs.declared.flat.Cells.{Cells}
use Rattle.elastic_ast.specs.declared.flat.Cells.TheVariants as cells
use Rattle.elastic_ast.specs.Units.PlainUnits.{PlainUnits}
use Rattle.size_terms.specs.Rows.{AreShort}

-- the greatest count of symbols, whose numbers have 32 bits
abbrev pub most_symbols : ℕ
most_symbols = 4294967296

-- keys that rise, each above a number
abbrev pub RiseAbove : ℕ → List (ℕ × ℕ) → Type 0
RiseAbove key [] = Unit {0}
RiseAbove key (pair ∷ pairs) = (key < pair.0) × RiseAbove pair.0 pairs

-- a step table: the first key is 0, and the keys rise
abbrev pub IsStepTable : List (ℕ × ℕ) → Type 0
IsStepTable [] = ⊥
IsStepTable (pair ∷ pairs) = (pair.0 ≡ 0) × RiseAbove 0 pairs

-- the size of a loop is one of this many symbols
abbrev pub IsLoopSize : ℕ → Option ℕ → Type 0
IsLoopSize symbols None = Unit {0}
IsLoopSize symbols (Some symbol) = symbol < symbols

-- a number of cells is fixed, or the size of one of this many symbols, which is one of those that are at least 1
abbrev pub IsCellCount : ℕ → List ℕ → Option Cells → Type 0
IsCellCount symbols ones None = Unit {0}
IsCellCount symbols ones (Some (cells.Fixed number)) = Unit {0}
IsCellCount symbols ones (Some (cells.Symbol symbol)) = (symbol < symbols) × (list_any (nat_eq symbol) ones ≡ true)

-- there are at most so many symbols, each sum has one coefficient for each of them, and none that is large; step tables are such;
-- header bits are counted for each symbol; the sizes of loops are symbols, and numbers of cells are fixed or symbols that are at
-- least 1
pub record SoundUnits (units : PlainUnits) : Type 0 where
  pub numbered : length units.terms.symbols ≤ most_symbols
  pub short : AreShort units.terms
  pub tables : All (λ table. IsStepTable table.pairs) units.terms.steps
  pub bits : length units.symbol_bits ≡ length units.terms.symbols
  pub sizes : All (λ unit. IsLoopSize (length units.terms.symbols) unit.size) units.list
  pub counts : All (λ unit. IsCellCount (length units.terms.symbols) units.terms.ones unit.cells) units.list
