use Rattle.std.proofs.Common.{◌∙◌, map, ap, ap₂}
use Rattle.std.specs.Prelude.{not}
use Rattle.elastic_ast.specs.Units.SeenUnits.{seen_unit}
use Rattle.place_check.specs.KnownOrders.{order_at}
use Rattle.place_check.specs.Misplaced.{stands_so}
use Rattle.place_check.proofs.order.against.Goals as goal

pub returns-clause-against : goal.returns-clause-against
returns-clause-against c =
    ap not c.stands_so.ensures
    ∙ ap (λ r. not (stands_so r c.args.first.stage c.args.later.stage)) c.known_order-relation.ensures.order
    ∙ ap₂ (λ one other. not (stands_so (order_at (map seen_unit c.args.units.now) one other) c.args.first.stage c.args.later.stage)) c.pair_of.ensures c.pair_of-2.ensures
