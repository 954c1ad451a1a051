use Rattle.std.proofs.Common.{◌≡◌, ◌≤◌, ◌-◌, length, map, drop}
use Rattle.elastic_ast.specs.Units.SeenUnits.{seen_unit}
use Rattle.elastic_ast.specs.Units.Instances.{nth_size, pair_of, groups, all_instances, instances}
use Rattle.dep_graph.specs.PlacementRules.{named_pair}
use Rattle.place_check.specs.FirstFault.{first_difference}
use Rattle.place_check.proofs.listing.first_difference.Given as goal

abbrev pub invariant-loop-first : goal.invariant-loop-first
invariant-loop-first l = record {
  rest : first_difference l.place (map named_pair (drop l.place l.placement)) (map pair_of (all_instances (nth_size l.sizes) (groups l.first (drop l.first (map seen_unit l.units)))))
      ≡ first_difference 0 (map named_pair l.placement) (map pair_of (instances (map seen_unit l.units) (nth_size l.sizes)));
  place : l.place ≤ length l.placement;
  first : l.first ≤ length l.units;
}

abbrev pub decreases-loop-first : goal.decreases-loop-first
decreases-loop-first l = length l.units - l.first
