-- Rows and sums with one coefficient a symbol, and what they are worth at given sizes; this project's own.
use Rattle.std.specs.Prelude.{◌≡◌, ℕ, ◌+◌, ◌<◌, ◌≤◌, nat_le, Bool, true, false, List, [], ◌∷◌, length, get_or, All, ℤ, pos, negsuc, ◌+ℤ◌, ◌*ℤ◌, ◌≤ℤ◌, unsigned_abs}
use Rattle.std.specs.List.{list_all}
use Rattle.elastic_ast.specs.declared.flat.Linear.{Linear}
use Rattle.elastic_ast.specs.declared.flat.Steps.{Steps}
use Rattle.elastic_ast.specs.declared.flat.Terms.{Terms}
use Rattle.elastic_ast.specs.Sizes.SizeSums.{negated_if, step_value}
use Rattle.elastic_ast.specs.Typing.LanguageLimits.{most_number, most_terms}
use Rattle.size_terms.specs.SumLimits.{most_bulk, most_right_side}

-- each coefficient times the size of its symbol, added up
abbrev pub dot : List ℤ → List ℕ → ℤ
dot [] sizes = pos 0
dot (by ∷ rest) [] = pos 0
dot (by ∷ rest) (size ∷ sizes) = (pos size *ℤ by) +ℤ dot rest sizes

abbrev pub RowHolds : List ℕ → Linear → Type 0
RowHolds sizes row = dot row.by sizes ≤ℤ row.most

-- every row holds at these sizes
abbrev pub RowsHold : List Linear → List ℕ → Type 0
RowsHold rows sizes = All (RowHolds sizes) rows

-- each symbol of these numbers has a size of at least 1
abbrev pub OneHolds : List ℕ → ℕ → Type 0
OneHolds sizes place = 1 ≤ get_or sizes place 0

abbrev pub OnesHold : List ℕ → List ℕ → Type 0
OnesHold sizes ones = All (OneHolds sizes) ones

-- every row holds at these sizes, and each symbol that counts cells or is a modulus is at least 1
pub record TermsHold (terms : Terms) (sizes : List ℕ) : Type 0 where
  pub rows : RowsHold terms.rows sizes
  pub ones : OnesHold sizes terms.ones

-- what a step table gives at these sizes: the value of its last key that isn't above the size of its symbol, with its sign
abbrev pub table_worth : List ℕ → Steps → ℤ
table_worth sizes table = negated_if table.minus (pos (step_value (get_or sizes table.symbol 0) 0 table.pairs))

abbrev pub tables_worth : List ℕ → List Steps → ℤ
tables_worth sizes [] = pos 0
tables_worth sizes (table ∷ tables) = table_worth sizes table +ℤ tables_worth sizes tables

-- the utility that the terms give at these sizes
abbrev pub worth : Terms → List ℕ → ℤ
worth terms sizes = (terms.base +ℤ dot terms.by sizes) +ℤ tables_worth sizes terms.steps

-- a coefficient isn't negative
abbrev pub is_whole : ℤ → Bool
is_whole (pos by) = true
is_whole (negsuc by) = false

-- the absolute values of the coefficients, added up
abbrev pub coefficient_weight : List ℤ → ℕ
coefficient_weight [] = 0
coefficient_weight (by ∷ rest) = unsigned_abs by + coefficient_weight rest

-- a sum over this many symbols that no size of 64 bits can bring out of 128 bits
pub record IsShort (symbols : ℕ) (by : List ℤ) (constant : ℤ) : Type 0 where
  pub dense : length by ≡ symbols
  pub small : coefficient_weight by ≤ most_bulk
  pub near : unsigned_abs constant ≤ most_right_side

-- a value of a step table is small
abbrev pub is_near_pair : ℕ × ℕ → Bool
is_near_pair pair = nat_le pair.1 most_number

-- a step table over one of this many symbols, with small values
pub record IsNearTable (symbols : ℕ) (table : Steps) : Type 0 where
  pub place : table.symbol < symbols
  pub near : list_all is_near_pair table.pairs ≡ true

-- the terms have one coefficient a symbol, and none that is large, and few step tables
pub record AreShort (terms : Terms) : Type 0 where
  pub rows : All (λ row. IsShort (length terms.symbols) row.by row.most) terms.rows
  pub utility : IsShort (length terms.symbols) terms.by terms.base
  pub ones : All (λ place. place < length terms.symbols) terms.ones
  pub tables : All (IsNearTable (length terms.symbols)) terms.steps
  pub few : length terms.steps ≤ most_terms
