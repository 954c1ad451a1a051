use Rattle.std.proofs.Common.{arith}
use Rattle.size_terms.proofs.SumLaws.{place_within}
use Rattle.size_terms.proofs.tables.push_table.Goals as goal

pub overflow_cast-place : goal.overflow_cast-place
overflow_cast-place c = let q = place_within c.args.places.now _ c.in-Some.place c.in-Some.ensures in omega (arith, q, c.requires.few)
