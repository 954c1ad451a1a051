-- The unit of a piece of work, as it is kept; this project's own.
use Rattle.std.specs.Prelude.{◌≡◌, List}
use Rattle.elastic_ast.specs.declared.flat.Unit.{Unit}
use Rattle.elastic_ast.specs.Tree.{PlainDecl}
use Rattle.elastic_ast.specs.Units.SeenUnits.{seen_unit}
use Rattle.unit_parts.specs.Spread.{PieceAround}
use Rattle.unit_parts.specs.UnitAt.{unit_at}

abbrev pub IsUnitAt : List PlainDecl → PieceAround → Unit → Type 0
IsUnitAt decls at unit = seen_unit unit ≡ unit_at decls at
