use Rattle.std.proofs.Common.{◌≡◌, take}
use Rattle.std.specs.Prelude.{map}
use Rattle.elastic_ast.specs.Units.SeenUnits.{seen_unit}
use Rattle.unit_flow.specs.Knowing.{known_decls}
use Rattle.unit_flow.specs.TooLarge.{AreFitting, units_at}
use Rattle.unit_flow.proofs.listing.list_units.Given as goal

abbrev pub invariant-loop-piece : goal.invariant-loop-piece
invariant-loop-piece l = (map seen_unit l.list ≡ units_at (known_decls l.known) (take l.piece-index l.pieces)) × AreFitting l.most (map seen_unit l.list)
