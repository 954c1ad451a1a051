use Rattle.std.proofs.Common.{sym}
use Rattle.elastic_ast.specs.Units.SeenUnits.{seen_units}
use Rattle.place_check.proofs.CheckLaws.{stage_fault, all_staged}
use Rattle.place_check.proofs.checking.check_staged.Goals as goal

pub returns-in-Some : goal.returns-in-Some
returns-in-Some c = stage_fault (seen_units c.args.units.now) c.args.target.now c.args.sizes.now.values c.args.placement.now.at c.in-Some.field-0 c.requires (sym c.in-Some.ensures)

pub returns-in-None : goal.returns-in-None
returns-in-None c = all_staged (seen_units c.args.units.now) c.args.target.now c.args.sizes.now.values c.args.placement.now.at c.requires (sym c.in-None.ensures)
