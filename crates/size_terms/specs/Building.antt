-- How the rows of comparisons are added to rows, and what is known of a program whose terms are few and small; this
-- project's own.
use Rattle.std.specs.Prelude.{◌≡◌, ℕ, ◌+◌, ◌≤◌, Bool, is_some, nat_le, ◌&&◌, List, [], ◌∷◌, ◌++◌, length, map, flat_map, All, ℤ, pos, ◌+ℤ◌, neg_ℤ}
use Rattle.std.specs.List.{list_all}
use Rattle.elastic_ast.specs.declared.declarations.Comp.{Comp}
use Rattle.elastic_ast.specs.declared.declarations.UtilTerm.{UtilTerm}
use Rattle.elastic_ast.specs.declared.declarations.UtilTerm.TheVariants as util
use Rattle.elastic_ast.specs.declared.flat.Linear.{Linear}
use Rattle.elastic_ast.specs.Tree.{Name}
use Rattle.elastic_ast.specs.declared.declarations.Rel.{Rel}
use Rattle.elastic_ast.specs.declared.declarations.Rel.TheVariants as rel
use Rattle.elastic_ast.specs.Sizes.SizeSums.{sum_value}
use Rattle.size_terms.specs.declared.sums.Sum.{Sum}
use Rattle.size_terms.specs.Places.{place_of}
use Rattle.size_terms.specs.Rows.{IsShort, is_near_pair}
use Rattle.size_terms.specs.Coefficients.{rows_of_comp}
use Rattle.size_terms.specs.Growth.{sum_worth, bulk, is_near, linears_value}
use Rattle.size_terms.specs.SumLimits.{most_bulk}
use Rattle.elastic_ast.specs.Typing.LanguageLimits.{most_terms}

abbrev pub is_short : Comp → Bool
is_short comp = nat_le (length comp.left + length comp.right) most_terms && (list_all is_near comp.left && list_all is_near comp.right)

-- a linear term whose number is small, or a step table over one of the symbols with small values
abbrev pub is_near_util : List Name → UtilTerm → Bool
is_near_util symbols (util.Lin term) = is_near term
is_near_util symbols (util.Steps minus symbol pairs) = is_some (place_of symbols symbol) && list_all is_near_pair pairs

-- a sum is the left side of a comparison without its right side
pub record IsDifference (symbols : List Name) (comp : Comp) (sum : Sum) : Type 0 where
  pub worth : (sizes : List ℕ) → sum_worth sum sizes ≡ sum_value symbols sizes comp.left +ℤ neg_ℤ (sum_value symbols sizes comp.right)
  pub dense : length sum.by.items ≡ length symbols
  pub bulky : bulk sum ≤ most_bulk

-- the row that says that a sum and a number are at most 0
abbrev pub row_of_sum : ℕ → List ℤ → ℤ → Linear
row_of_sum more by constant = record { by = by; most = neg_ℤ constant +ℤ neg_ℤ (pos more) }

-- the rows that say how a sum compares with 0
abbrev pub rows_of_sum : Rel → List ℤ → ℤ → List Linear
rows_of_sum rel.Le by constant = row_of_sum 0 by constant ∷ []
rows_of_sum rel.Lt by constant = row_of_sum 1 by constant ∷ []
rows_of_sum rel.Ge by constant = row_of_sum 0 (map neg_ℤ by) (neg_ℤ constant) ∷ []
rows_of_sum rel.Gt by constant = row_of_sum 1 (map neg_ℤ by) (neg_ℤ constant) ∷ []
rows_of_sum rel.Eq by constant = row_of_sum 0 by constant ∷ row_of_sum 0 (map neg_ℤ by) (neg_ℤ constant) ∷ []

-- each row has one coefficient a symbol, and none that is large
abbrev pub RowsShort : ℕ → List Linear → Type 0
RowsShort symbols rows = All (λ row. IsShort symbols row.by row.most) rows

-- the rows of comparisons stand behind the old ones; and the new rows are short where the old ones are
pub record AddsComps (symbols : List Name) (old new : List Linear) (comps : List Comp) : Type 0 where
  pub added : new ≡ old ++ flat_map (rows_of_comp symbols) comps
  pub short : RowsShort (length symbols) old → RowsShort (length symbols) new

-- a sum is the utility without its step tables
pub record IsLinearPart (symbols : List Name) (terms : List UtilTerm) (sum : Sum) : Type 0 where
  pub worth : (sizes : List ℕ) → sum_worth sum sizes ≡ linears_value symbols sizes terms
  pub dense : length sum.by.items ≡ length symbols
  pub bulky : bulk sum ≤ most_bulk
