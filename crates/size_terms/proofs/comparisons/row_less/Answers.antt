use Rattle.std.proofs.Common.{arith}
use Rattle.std.proofs.lemmas.Int.{ints}
use Rattle.size_terms.proofs.RowLaws.{same_row}
use Rattle.size_terms.proofs.comparisons.row_less.Goals as goal

pub returns : goal.returns
returns c = same_row _ _ _ c.from_vec.ensures (omega (arith, ints))
