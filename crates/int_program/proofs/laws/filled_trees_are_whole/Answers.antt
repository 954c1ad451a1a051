use Rattle.int_program.proofs.CaseLaws.{filled_whole, accepted_whole, open_whole, fair_whole}
use Rattle.int_program.proofs.laws.filled_trees_are_whole.Goals as goal

pub returns-clause-filled : goal.returns-clause-filled
returns-clause-filled c = filled_whole

pub returns-clause-accepted : goal.returns-clause-accepted
returns-clause-accepted c = accepted_whole

pub returns-clause-open_leaves : goal.returns-clause-open_leaves
returns-clause-open_leaves c = open_whole

pub returns-clause-fair : goal.returns-clause-fair
returns-clause-fair c = fair_whole
