use Rattle.ilp_model.proofs.ListingLaws.{adds_turn}
use Rattle.ilp_model.proofs.listing.Listing.add_turns.Goals as goal

pub loop-index-preserved : goal.loop-index-preserved
loop-index-preserved c = record {
  adds = adds_turn c.args.self.now c.loop-index.self c.add_turn.new.self _ c.loop-index.index c.loop-index.invariant.adds c.in_ok-add_turn.ensures.adds;
  ranked = c.in_ok-add_turn.ensures.ranked;
}
