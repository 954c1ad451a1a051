use Rattle.std.proofs.Common.{◌≡◌, ◌+◌, ◌-◌, get_or, take, drop, length, map, ap, arith, length-drop}
use Rattle.elastic_ast.specs.Units.SeenUnits.{seen_unit}
use Rattle.unroll_bound.proofs.OrderSteps.{rows_before, rows_whole, slice_from}
use Rattle.unroll_bound.proofs.SymbolListLaws.{in_range}
use Rattle.unroll_bound.proofs.order_rows.rows_of_orders.Goals as goal

pub loop-i-preserved : goal.loop-i-preserved
loop-i-preserved c =
    let list = c.args.list.now in
    let i = c.loop-i.i in
    let first = get_or list (i - 1) (0, 0) in
    let rest = take (length list - (i - 1 + 1)) (drop (i - 1 + 1) list) in
    let behind : rest ≡ drop i list = slice_from list (i - 1 + 1) i (omega arith) in
    let shorter = ap length behind in
    let short = length-drop i list in
    let before = c.loop-i.invariant.small in
    let one = c.rows_with-count.ensures.small in
    record {
      rows = rows_before c.args.stages (map seen_unit c.args.units.now) list i c.loop-i.count c.rows_with-count.result first rest (omega arith) (omega arith)
          (in_range list (i - 1) (0, 0) first (omega arith)) behind c.rows_with-count.ensures.rows c.loop-i.invariant.rows;
      small = (let few = c.requires.few in omega (arith, before, one, shorter, short, few));
      kept = c.rows_with-count.ensures.kept;
    }

pub returns-clause-rows : goal.returns-clause-rows
returns-clause-rows c = rows_whole c.args.stages (map seen_unit c.args.units.now) c.args.list.now c.loop-i.i c.loop-i.count (omega arith) c.loop-i.invariant.rows
