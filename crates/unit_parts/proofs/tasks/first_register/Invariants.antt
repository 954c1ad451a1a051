use Rattle.std.proofs.Common.{◌≡◌, drop}
use Rattle.std.specs.Prelude.{map}
use Rattle.elastic_ast.specs.Containers.LocationRefs.{seen_ref}
use Rattle.elastic_ast.specs.Typing.Scope.{found}
use Rattle.elastic_ast.specs.Units.Costs.{register_of}
use Rattle.unit_parts.proofs.tasks.first_register.Given as goal

abbrev pub invariant-loop-at : goal.invariant-loop-at
invariant-loop-at l = found register_of (map seen_ref (drop l.at-index l.writes)) ≡ found register_of (map seen_ref l.writes)
