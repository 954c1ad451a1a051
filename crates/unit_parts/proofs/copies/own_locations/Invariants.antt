use Rattle.std.proofs.Common.{◌≡◌, take}
use Rattle.std.specs.Prelude.{map}
use Rattle.elastic_ast.specs.Containers.LocationRefs.{seen_ref}
use Rattle.unit_parts.proofs.copies.own_locations.Given as goal

abbrev pub invariant-loop-at : goal.invariant-loop-at
invariant-loop-at l = l.owned ≡ map seen_ref (take l.at-index l.locations)
