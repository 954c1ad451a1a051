use Rattle.place_check.proofs.UnitLaws.{best_alike}
use Rattle.place_check.proofs.units.best_units_alike.Goals as goal

pub returns : goal.returns
returns c = best_alike
