use Rattle.elastic_ast.specs.Units.SeenUnits.{seen_units}
use Rattle.place_check.proofs.CheckLaws.{named, over_fault, all_fitting}
use Rattle.place_check.proofs.checking.check_fitting.Goals as goal

pub overfull-requires-clause-named : goal.overfull-requires-clause-named
overfull-requires-clause-named c = named (seen_units c.args.units.now) c.args.target.now c.args.sizes.now.values c.args.placement.now.at c.requires.before.before.before

pub returns-in-Some : goal.returns-in-Some
returns-in-Some c =
    over_fault (seen_units c.args.units.now) c.args.target.now c.args.sizes.now.values c.args.placement.now.at c.in-Some.stage c.in-Some.resource c.in-Some.used c.limit_of.result c.requires.before c.in-Some.ensures c.limit_of.ensures

pub returns-in-None : goal.returns-in-None
returns-in-None c = all_fitting (seen_units c.args.units.now) c.args.target.now c.args.sizes.now.values c.args.placement.now.at c.requires.before c.in-None.ensures
