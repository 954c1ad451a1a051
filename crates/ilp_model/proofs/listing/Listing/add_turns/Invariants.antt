use Rattle.std.proofs.Common.{map}
use Rattle.elastic_ast.specs.Units.SeenUnits.{seen_unit}
use Rattle.elastic_ast.specs.Units.Instances.{at_index, each_turn}
use Rattle.ilp_model.specs.ListedCandidates.{numbered, Adds, IsRanked}
use Rattle.ilp_model.proofs.listing.Listing.add_turns.Given as goal

abbrev pub invariant-loop-index : goal.invariant-loop-index
invariant-loop-index l = record {
  adds : Adds l.initial.self (each_turn l.index (at_index (numbered l.first (map seen_unit l.group)))) l.self;
  ranked : IsRanked l.self;
}
