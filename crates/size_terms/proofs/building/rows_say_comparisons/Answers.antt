use Rattle.size_terms.proofs.CoefficientLaws.{rows_are}
use Rattle.size_terms.proofs.building.rows_say_comparisons.Goals as goal

pub returns : goal.returns
returns c = rows_are
