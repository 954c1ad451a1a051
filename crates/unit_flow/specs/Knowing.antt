-- What is known of a program for its units; this project's own.
use Rattle.std.specs.Prelude.{◌≡◌, ℕ, List, length, Option, option_map}
use Rattle.elastic_ast.specs.declared.statements.Amount.{Amount}
use Rattle.elastic_ast.specs.declared.flat.Cells.{Cells}
use Rattle.elastic_ast.specs.Tree.{PlainDecl}
use Rattle.elastic_ast.specs.Sizes.SizeSums.{symbols_of}
use Rattle.elastic_ast.specs.Units.Costs.{cells_counted}
use Rattle.elastic_ast.specs.Units.PlainUnits.{PlainUnit}
use Rattle.expr_types.specs.Scoped.{before_of}
use Rattle.unit_parts.specs.declared.pieces.Piece.{Piece}
use Rattle.unit_flow.specs.declared.naming.Known.{Known}
use Rattle.unit_flow.specs.Remembered.{AreSummaries}
use Rattle.unit_flow.specs.TooLarge.{units_at}

-- the declarations of the program
abbrev pub known_decls : Known → List PlainDecl
known_decls known = before_of known.scope

-- the units of pieces of the program
abbrev pub known_units : Known → List Piece → List PlainUnit
known_units known pieces = units_at (known_decls known) pieces

pub record Knows (known : Known) : Type 0 where
  pub symbols : known.places ≡ symbols_of (known_decls known)
  pub count : known.count ≡ length known.places
  pub summaries : AreSummaries (known_decls known) known.summaries

-- the cells of a register, a symbol by its number
abbrev pub counted_kept : List PlainDecl → Option (Amount × ℕ) → Option (Cells × ℕ)
counted_kept decls kept = option_map (λ kept. (cells_counted decls kept.0, kept.1)) kept
