-- What the terms of a program say: its assume clauses and its utility, at all sizes; this project's own.
use Rattle.std.specs.Prelude.{◌≡◌, ◌↔◌, ◌≤◌, ℕ, List, [], length, All, ◌+ℤ◌}
use Rattle.elastic_ast.specs.declared.flat.Linear.{Linear}
use Rattle.elastic_ast.specs.declared.flat.Terms.{Terms}
use Rattle.elastic_ast.specs.Tree.{Name, PlainDecl}
use Rattle.elastic_ast.specs.Sizes.SizeSums.{Assumes, comparisons, utility, utility_terms, utils_value}
use Rattle.elastic_ast.specs.Typing.LanguageLimits.{most_terms}
use Rattle.size_terms.specs.Rows.{TermsHold, worth, IsNearTable, tables_worth}
use Rattle.size_terms.specs.SumLimits.{most_bulk}
use Rattle.size_terms.specs.Growth.{sum_worth, bulk}
use Rattle.size_terms.specs.Building.{AddsComps}
use Rattle.size_terms.specs.Tables.{tables_in}
use Rattle.size_terms.specs.declared.building.Utility.{Utility}

-- the rows of all comparisons, in order
abbrev pub AreAssumeRows : List Name → List PlainDecl → List Linear → Type 0
AreAssumeRows symbols decls rows = AddsComps symbols [] rows (comparisons decls)

-- the utility, as a sum and as step tables
pub record IsUtilityOf (symbols : List Name) (decls : List PlainDecl) (parts : Utility) : Type 0 where
  pub worth : (sizes : List ℕ) → sum_worth parts.sum sizes +ℤ tables_worth sizes parts.tables ≡ utils_value symbols sizes (utility_terms decls)
  pub dense : length parts.sum.by.items ≡ length symbols
  pub bulky : bulk parts.sum ≤ most_bulk
  pub tables : parts.tables ≡ tables_in symbols (utility_terms decls)
  pub near : All (IsNearTable (length symbols)) parts.tables
  pub few : length parts.tables ≤ most_terms

-- the terms hold at sizes exactly where the assume clauses do, and what counts cells or is a modulus is at least 1
abbrev pub SayAssumes : List PlainDecl → Terms → Type 0
SayAssumes decls terms = (sizes : List ℕ) → TermsHold terms sizes ↔ Assumes decls sizes

-- the utility is worth what that of the program is
abbrev pub SayUtility : List PlainDecl → Terms → Type 0
SayUtility decls terms = (sizes : List ℕ) → worth terms sizes ≡ utility decls sizes
