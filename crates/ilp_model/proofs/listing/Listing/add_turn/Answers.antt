use Rattle.ilp_model.proofs.ListingLaws.{leads_more, turn_step}
use Rattle.ilp_model.proofs.listing.Listing.add_turn.Goals as goal

pub loop-place-preserved : goal.loop-place-preserved
loop-place-preserved c = record {
  leads = leads_more c.args.self.now c.loop-place.self c.add.new.self _ _ _ _ c.loop-place.invariant.leads
      (turn_step c.args.group.now c.args.first c.loop-place.place c.args.index c.index-group-place.result c.loop-place-test.true c.index-group-place.is)
      c.in_ok-add.ensures.adds;
  ranked = c.in_ok-add.ensures.ranked;
}
