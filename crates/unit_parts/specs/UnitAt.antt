-- The unit of a piece with the loop around it; this project's own.
use Rattle.std.specs.Prelude.{List}
use Rattle.elastic_ast.specs.Tree.{PlainDecl}
use Rattle.elastic_ast.specs.Units.PlainUnits.{PlainUnit}
use Rattle.elastic_ast.specs.Units.UnitsOf.{unit_of}
use Rattle.unit_parts.specs.Spread.{PieceAround}

abbrev pub unit_at : List PlainDecl → PieceAround → PlainUnit
unit_at decls at = unit_of decls at.around at.piece
