use Rattle.int_program.proofs.TreeLaws.{none_above, no_point}
use Rattle.int_program.proofs.laws.accepted_trees_leave_no_better_point.Goals as goal

pub returns-clause-value : goal.returns-clause-value
returns-clause-value c = none_above

pub returns-clause-none : goal.returns-clause-none
returns-clause-none c = no_point
