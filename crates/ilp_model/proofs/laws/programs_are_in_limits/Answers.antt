use Rattle.ilp_model.proofs.CountLaws.{variables_and_rows_are_counted}
use Rattle.ilp_model.proofs.LimitLaws.{programs_are_in_limits}
use Rattle.ilp_model.proofs.laws.programs_are_in_limits.Goals as goal

pub returns : goal.returns
returns c = record { counted = variables_and_rows_are_counted; limits = programs_are_in_limits }
