use Rattle.std.proofs.Common.{map, sym}
use Rattle.std.proofs.lemmas.Bool.{both_ways}
use Rattle.elastic_ast.specs.Units.Instances.{nth_size, pair_of, instances}
use Rattle.elastic_ast.specs.Units.SeenUnits.{seen_unit}
use Rattle.dep_graph.specs.PlacementRules.{named_pair}
use Rattle.place_check.specs.FirstFault.{Terms, Instances}
use Rattle.place_check.proofs.FaultLaws.{no_difference}
use Rattle.place_check.proofs.checking.check_listed.Goals as goal

pub returns-then-not-holds : goal.returns-then-not-holds
returns-then-not-holds c = Terms (λ terms. both_ways c.holds.result c.if-not-holds.true (c.holds.ensures.1 terms))

pub returns-in-Some : goal.returns-in-Some
returns-in-Some c = Instances c.in-Some.place (c.holds.ensures.0 c.if-not-holds.false) (sym c.in-Some.ensures.place)

pub returns-in-None : goal.returns-in-None
returns-in-None c = record {
  assumed = c.holds.ensures.0 c.if-not-holds.false;
  listed = no_difference 0 (map named_pair c.args.placement.now.at) (map pair_of (instances (map seen_unit c.args.units.now.list) (nth_size c.args.sizes.now.values))) (sym c.in-None.ensures.place);
}
