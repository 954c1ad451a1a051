use Rattle.ilp_model.proofs.BestLaws.{best_points_are_best, no_point_is_infeasible, best_of_program, infeasible_program}
use Rattle.ilp_model.proofs.laws.best_points_are_best.Goals as goal

pub returns : goal.returns
returns c = record { best = best_points_are_best; none = no_point_is_infeasible; program = best_of_program; none_of_program = infeasible_program }
