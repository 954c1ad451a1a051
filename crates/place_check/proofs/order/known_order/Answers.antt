use Rattle.std.proofs.Common.{◌∙◌, map, ap}
use Rattle.elastic_ast.specs.Units.SeenUnits.{seen_unit}
use Rattle.dep_graph.specs.SeenRelation.{seen_relation}
use Rattle.place_check.proofs.OrderLaws.{order_known}
use Rattle.place_check.proofs.order.known_order.Goals as goal

pub returns-clause-order : goal.returns-clause-order
returns-clause-order c =
    ap (λ r. seen_relation r) c.at.ensures
    ∙ order_known (map seen_unit c.args.units.now) c.recalled-known.result c.args.first c.args.later c.recalled-known.ensures.known c.recalled-known.ensures.first c.recalled-known.ensures.second
