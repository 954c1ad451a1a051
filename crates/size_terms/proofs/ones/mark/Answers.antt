use Rattle.std.proofs.Common.{arith}
use Rattle.size_terms.proofs.SumLaws.{place_within}
use Rattle.size_terms.proofs.ones.mark.Goals as goal

pub bounds-marks-place : goal.bounds-marks-place
bounds-marks-place c = let q = place_within c.args.places.now c.args.name.now c.in-Some.place c.in-Some.ensures in omega (arith, q, c.requires)
