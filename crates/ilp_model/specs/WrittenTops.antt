-- The greatest values of the variables, as they are written; this project's own.
use Rattle.std.specs.Prelude.{ℕ, ℤ, pos, List, [], get_or, replicate, Option, Some, None}
use Rattle.elastic_ast.specs.declared.flat.Cells.{Cells}
use Rattle.elastic_ast.specs.declared.flat.Cells.TheVariants as cells
use Rattle.elastic_ast.specs.Units.PlainUnits.{PlainUnit}
use Rattle.place_check.specs.Standing.{no_unit}
use Rattle.ilp_model.specs.declared.listing.Candidate.{Candidate as Listed}

-- the same value several times
abbrev pub written_tops : ℕ → ℕ → List ℤ
written_tops count top = replicate count (pos top)

-- those of cells that a symbol counts, one a stage
abbrev pub written_held : ℕ → (ℕ → ℕ) → Option Cells → List ℤ
written_held stages bounds None = []
written_held stages bounds (Some (cells.Fixed number)) = []
written_held stages bounds (Some (cells.Symbol symbol)) = written_tops stages (bounds symbol)

-- those of an instance that is listed
abbrev pub held_of : List PlainUnit → ℕ → (ℕ → ℕ) → Listed → List ℤ
held_of units stages bounds one = written_held stages bounds (get_or units one.unit no_unit).cells
