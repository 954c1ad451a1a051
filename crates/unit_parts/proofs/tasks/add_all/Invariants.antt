use Rattle.std.proofs.Common.{◌≡◌, drop}
use Rattle.std.specs.Prelude.{map}
use Rattle.elastic_ast.specs.Containers.LocationRefs.{seen_ref}
use Rattle.unit_parts.specs.Gathered.{with_locations}
use Rattle.unit_parts.proofs.tasks.add_all.Given as goal

abbrev pub invariant-loop-at : goal.invariant-loop-at
invariant-loop-at l = with_locations l.found (map seen_ref (drop l.at-index l.locations)) ≡ with_locations l.initial.found (map seen_ref l.locations)
