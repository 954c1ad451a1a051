use Rattle.int_program.proofs.CaseLaws.{accepted_alike, fair_alike}
use Rattle.int_program.proofs.laws.lists_and_trees_are_accepted_alike.Goals as goal

pub returns-clause-accepted : goal.returns-clause-accepted
returns-clause-accepted c = accepted_alike

pub returns-clause-fair : goal.returns-clause-fair
returns-clause-fair c = fair_alike
