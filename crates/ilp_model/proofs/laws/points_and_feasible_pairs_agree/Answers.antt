use Rattle.ilp_model.proofs.PairsAndPoints.{pairs_are_points, points_are_pairs}
use Rattle.ilp_model.proofs.laws.points_and_feasible_pairs_agree.Goals as goal

pub returns : goal.returns
returns c = record { pairs = pairs_are_points; points = points_are_pairs }
