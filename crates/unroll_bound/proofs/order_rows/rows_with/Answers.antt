use Rattle.std.proofs.Common.{◌-◌, get_or, map, arith}
use Rattle.elastic_ast.specs.Units.SeenUnits.{seen_unit}
use Rattle.unroll_bound.specs.OrderRows.{rows_of_pair}
use Rattle.unroll_bound.proofs.CountSteps.{sum_before, sum_none, sum_whole}
use Rattle.unroll_bound.proofs.SymbolListLaws.{in_range}
use Rattle.unroll_bound.proofs.order_rows.rows_with.Goals as goal

pub loop-i-init : goal.loop-i-init
loop-i-init c = record { rows = sum_none (rows_of_pair c.args.stages (map seen_unit c.args.units.now) c.args.first) c.args.later.now; small = omega arith; kept = c.requires.kept }

pub loop-i-preserved : goal.loop-i-preserved
loop-i-preserved c =
    let list = c.args.later.now in
    let i = c.loop-i.i in
    let other = get_or list (i - 1) (0, 0) in
    record {
      rows = sum_before (rows_of_pair c.args.stages (map seen_unit c.args.units.now) c.args.first) list i c.loop-i.count c.pair_rows-count.result other (omega arith) (omega arith)
          (in_range list (i - 1) (0, 0) other (omega arith)) c.pair_rows-count.ensures.rows c.loop-i.invariant.rows;
      small = (let s = c.loop-i.invariant.small in let t = c.pair_rows-count.ensures.small in omega (arith, s, t));
      kept = c.pair_rows-count.ensures.kept;
    }

pub returns-clause-rows : goal.returns-clause-rows
returns-clause-rows c = sum_whole (rows_of_pair c.args.stages (map seen_unit c.args.units.now) c.args.first) c.args.later.now c.loop-i.i c.loop-i.count (omega arith) c.loop-i.invariant.rows
