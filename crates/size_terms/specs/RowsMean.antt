-- The rows of a program hold exactly where its comparisons do; this project's own.
use Rattle.std.specs.Prelude.{◌↔◌, List, ℕ}
use Rattle.elastic_ast.specs.Tree.{PlainDecl}
use Rattle.elastic_ast.specs.Sizes.SizeSums.{Compared}
use Rattle.size_terms.specs.Rows.{RowsHold}
use Rattle.size_terms.specs.Coefficients.{rows_of}

-- at all sizes the rows of a program hold exactly where its comparisons do
abbrev pub RowsSayComparisons : Type 0
RowsSayComparisons = (decls : List PlainDecl) (sizes : List ℕ) → RowsHold (rows_of decls) sizes ↔ Compared decls sizes
