-- How a sum of sizes grows term by term; this project's own.
use Rattle.std.specs.Prelude.{◌≡◌, ℕ, ◌+◌, ◌*◌, ◌*ℤ◌, ◌≤◌, Bool, List, [], ◌∷◌, length, map, ℤ, pos, ◌+ℤ◌, neg_ℤ, unsigned_abs, nat_le}
use Rattle.elastic_ast.specs.declared.declarations.LinTerm.{LinTerm}
use Rattle.elastic_ast.specs.declared.declarations.UtilTerm.{UtilTerm}
use Rattle.elastic_ast.specs.declared.declarations.UtilTerm.TheVariants as util
use Rattle.elastic_ast.specs.Tree.{Name}
use Rattle.elastic_ast.specs.Sizes.SizeSums.{size_of, negated_if, term_value, sum_value}
use Rattle.elastic_ast.specs.Typing.LanguageLimits.{most_number}
use Rattle.size_terms.specs.declared.sums.Sum.{Sum}
use Rattle.size_terms.specs.Rows.{dot, coefficient_weight}

-- what a sum is worth at these sizes
abbrev pub sum_worth : Sum → List ℕ → ℤ
sum_worth sum sizes = dot sum.by.items sizes +ℤ sum.constant

-- the absolute values of its coefficients and its constant, added up
abbrev pub bulk : Sum → ℕ
bulk sum = coefficient_weight sum.by.items + unsigned_abs sum.constant

-- a sum has a value more than before, at all sizes, for the same symbols, and isn't much larger
pub record Grows (old new : Sum) (value : List ℕ → ℤ) (most : ℕ) : Type 0 where
  pub worth : (sizes : List ℕ) → sum_worth new sizes ≡ sum_worth old sizes +ℤ value sizes
  pub dense : length new.by.items ≡ length old.by.items
  pub bulky : bulk new ≤ bulk old + most

abbrev pub is_near : LinTerm → Bool
is_near term = nat_le term.by most_number

-- a sum has grown by a number times the size of a symbol
abbrev pub GrowsBySymbol : List Name → Sum → Sum → Name → ℤ → Type 0
GrowsBySymbol symbols old new name number = Grows old new (λ sizes. pos (size_of symbols sizes name) *ℤ number) (unsigned_abs number)

-- by a term, or less by it
abbrev pub GrowsByTerm : List Name → Sum → Sum → Bool → LinTerm → Type 0
GrowsByTerm symbols old new minus term = Grows old new (λ sizes. negated_if minus (term_value symbols sizes term)) most_number

-- by terms, or less by them
abbrev pub GrowsByTerms : List Name → Sum → Sum → Bool → List LinTerm → Type 0
GrowsByTerms symbols old new minus terms =
    Grows old new (λ sizes. negated_if minus (sum_value symbols sizes terms)) (most_number * length terms)

-- what a term of the utility adds to its sum: nothing, where it is a step table
abbrev pub linear_value : List Name → List ℕ → UtilTerm → ℤ
linear_value symbols sizes (util.Lin term) = term_value symbols sizes term
linear_value symbols sizes (util.Steps minus symbol pairs) = pos 0

abbrev pub linears_value : List Name → List ℕ → List UtilTerm → ℤ
linears_value symbols sizes [] = pos 0
linears_value symbols sizes (term ∷ terms) = linear_value symbols sizes term +ℤ linears_value symbols sizes terms

-- by a term of the utility
abbrev pub GrowsByUtility : List Name → Sum → Sum → UtilTerm → Type 0
GrowsByUtility symbols old new term = Grows old new (λ sizes. linear_value symbols sizes term) most_number

-- the sum of nothing
pub record IsZero (sum : Sum) (symbols : ℕ) : Type 0 where
  pub worth : (sizes : List ℕ) → sum_worth sum sizes ≡ pos 0
  pub dense : length sum.by.items ≡ symbols
  pub bulky : bulk sum ≡ 0

-- one sum is the other with its sign turned
pub record Negates (sum other : Sum) : Type 0 where
  pub by : other.by.items ≡ map neg_ℤ sum.by.items
  pub constant : other.constant ≡ neg_ℤ sum.constant
  pub bulky : bulk other ≡ bulk sum
