use Rattle.int_program.proofs.KnownLaws.{accepts_greater, accepts_none}
use Rattle.int_program.proofs.laws.accepted_trees_stay_accepted.Goals as goal

pub returns-clause-greater : goal.returns-clause-greater
returns-clause-greater c = accepts_greater

pub returns-clause-none : goal.returns-clause-none
returns-clause-none c = accepts_none
