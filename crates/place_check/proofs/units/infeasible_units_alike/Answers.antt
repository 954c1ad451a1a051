use Rattle.place_check.proofs.UnitLaws.{infeasible_alike}
use Rattle.place_check.proofs.units.infeasible_units_alike.Goals as goal

pub returns : goal.returns
returns c = infeasible_alike
