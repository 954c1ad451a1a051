use Rattle.std.proofs.Common.{◌<◌, ◌≤◌, [], map, length}
use Rattle.elastic_ast.specs.Units.SeenUnits.{seen_unit}
use Rattle.elastic_ast.specs.Units.Instances.{nth_size, instances}
use Rattle.ilp_model.specs.ListedCandidates.{IsRanked}
use Rattle.ilp_model.proofs.ListingLaws.{Leads, open_instances}
use Rattle.ilp_model.proofs.listing.listed_candidates.Given as goal

abbrev pub invariant-loop-next : goal.invariant-loop-next
invariant-loop-next l = record {
  leads : Leads (record { list = []; rank = 0 }) l.listing (instances (map seen_unit l.units) (nth_size l.bounds))
      (open_instances (nth_size l.bounds) (map seen_unit l.units) l.first l.next);
  before : l.first < l.next;
  within : l.next ≤ length l.units;
  ranked : IsRanked l.listing;
}
