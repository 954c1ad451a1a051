use Rattle.int_program.proofs.InsideLaws.{inside_nonempty, rows_inside, goal_inside, root_inside}
use Rattle.int_program.proofs.laws.boxes_inside_the_root_are_small.Goals as goal

pub returns-clause-box_kept : goal.returns-clause-box_kept
returns-clause-box_kept c = inside_nonempty

pub returns-clause-rows : goal.returns-clause-rows
returns-clause-rows c = rows_inside

pub returns-clause-goal : goal.returns-clause-goal
returns-clause-goal c = goal_inside

pub returns-clause-root : goal.returns-clause-root
returns-clause-root c = root_inside
