use Rattle.std.proofs.Common.{map, ◌∙◌, arith}
use Rattle.elastic_ast.specs.Units.Instances.{nth_size}
use Rattle.elastic_ast.specs.Units.SeenUnits.{seen_unit}
use Rattle.unroll_bound.proofs.OrderSteps.{listed_rows, listed_count}
use Rattle.unroll_bound.proofs.order_rows.order_row_count.Goals as goal

pub rows_of_orders-requires-clause-few : goal.rows_of_orders-requires-clause-few
rows_of_orders-requires-clause-few c =
    let count = listed_count (map seen_unit c.args.units.now) (nth_size c.args.bounds.now) c.as_slice.result.now (c.as_slice.ensures ∙ c.in_ok-list.ensures.list) in
    let few = c.requires.few in
    omega (arith, count, few)

pub returns-clause-rows : goal.returns-clause-rows
returns-clause-rows c =
    c.rows_of_orders.ensures.rows ∙ listed_rows c.args.stages (map seen_unit c.args.units.now) (nth_size c.args.bounds.now) c.as_slice.result.now (c.as_slice.ensures ∙ c.in_ok-list.ensures.list)
