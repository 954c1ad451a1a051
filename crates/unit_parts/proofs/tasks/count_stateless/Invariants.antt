use Rattle.std.proofs.Common.{drop}
use Rattle.std.specs.Prelude.{map, sum_by}
use Rattle.elastic_ast.specs.Containers.LocationRefs.{seen_ref}
use Rattle.elastic_ast.specs.Units.Costs.{stateless_units}
use Rattle.unit_parts.specs.Capped.{capped}
use Rattle.unit_parts.proofs.CappedLaws.{Counting}
use Rattle.unit_parts.proofs.tasks.count_stateless.Given as goal

abbrev pub invariant-loop-at : goal.invariant-loop-at
invariant-loop-at l = Counting l.sum (sum_by stateless_units (map seen_ref (drop l.at-index l.writes))) (capped (sum_by stateless_units (map seen_ref l.writes)))
