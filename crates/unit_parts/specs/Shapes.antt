-- How many pieces a body is cut into, as the code tells it; this project's own.
use Rattle.elastic_laws.specs.Units.PieceCounts.{HowMany, NoPiece, OnePiece, More}
use Rattle.unit_parts.specs.declared.shape.Shape.{Shape}
use Rattle.unit_parts.specs.declared.shape.Shape.TheVariants.{Empty, Single, Several}

abbrev pub seen_shape : Shape → HowMany
seen_shape Empty = NoPiece
seen_shape Single = OnePiece
seen_shape Several = More
