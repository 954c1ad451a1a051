use Rattle.std.proofs.Common.{sym}
use Rattle.elastic_ast.specs.Units.SeenUnits.{seen_units}
use Rattle.place_check.proofs.CheckLaws.{named, order_fault, all_ordered}
use Rattle.place_check.proofs.checking.check_ordered.Goals as goal

pub misplaced-requires : goal.misplaced-requires
misplaced-requires c = named (seen_units c.args.units.now) c.args.target.now c.args.sizes.now.values c.args.placement.now.at c.requires.before

pub returns-in-Some : goal.returns-in-Some
returns-in-Some c = order_fault (seen_units c.args.units.now) c.args.target.now c.args.sizes.now.values c.args.placement.now.at c.in-Some.first c.in-Some.other c.requires (sym c.in-Some.ensures)

pub returns-in-None : goal.returns-in-None
returns-in-None c = all_ordered (seen_units c.args.units.now) c.args.target.now c.args.sizes.now.values c.args.placement.now.at c.requires (sym c.in-None.ensures)
