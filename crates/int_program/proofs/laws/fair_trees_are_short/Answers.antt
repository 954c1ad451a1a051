use Rattle.int_program.proofs.ShortLaws.{fair_short}
use Rattle.int_program.proofs.laws.fair_trees_are_short.Goals as goal

pub returns : goal.returns
returns c = fair_short
