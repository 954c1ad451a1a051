use Rattle.std.proofs.Common.{◌+◌, map, drop}
use Rattle.elastic_ast.specs.Units.SeenUnits.{seen_unit}
use Rattle.elastic_ast.specs.Units.Instances.{at_index}
use Rattle.ilp_model.specs.ListedCandidates.{numbered, IsRanked}
use Rattle.ilp_model.proofs.ListingLaws.{Leads}
use Rattle.ilp_model.proofs.listing.Listing.add_turn.Given as goal

abbrev pub invariant-loop-place : goal.invariant-loop-place
invariant-loop-place l = record {
  leads : Leads l.initial.self l.self (at_index (numbered l.first (map seen_unit l.group)) l.index)
      (at_index (numbered (l.first + l.place) (drop l.place (map seen_unit l.group))) l.index);
  ranked : IsRanked l.self;
}
