use Rattle.place_check.proofs.UnitLaws.{feasible_alike}
use Rattle.place_check.proofs.units.feasible_units_alike.Goals as goal

pub returns : goal.returns
returns c = feasible_alike
