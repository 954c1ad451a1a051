use Rattle.std.proofs.Common.{◌≡◌, ◌≤◌, ◌-◌, ◌++◌, length, map, drop}
use Rattle.elastic_ast.specs.Units.SeenUnits.{seen_unit}
use Rattle.elastic_ast.specs.Units.Instances.{nth_size, pair_of, groups, all_instances, instances}
use Rattle.place_check.proofs.instances.list_instances.Given as goal

abbrev pub invariant-loop-first : goal.invariant-loop-first
invariant-loop-first l = record {
  rest : l.list ++ map pair_of (all_instances (nth_size l.sizes) (groups l.first (drop l.first (map seen_unit l.units)))) ≡ map pair_of (instances (map seen_unit l.units) (nth_size l.sizes));
  first : l.first ≤ length l.units;
}

abbrev pub decreases-loop-first : goal.decreases-loop-first
decreases-loop-first l = length l.units - l.first
