use Rattle.ilp_model.proofs.UnitFacts.{loop_sizes}
use Rattle.ilp_model.proofs.listing.candidates.Goals as goal

pub listed_candidates-requires-clause-sizes : goal.listed_candidates-requires-clause-sizes
listed_candidates-requires-clause-sizes c = loop_sizes c.args.units.now c.args.bounds.now c.requires.sound c.requires.dense
