use Rattle.std.proofs.Common.{arith}
use Rattle.elastic_ast.specs.Units.Instances.{nth_size}
use Rattle.unroll_bound.specs.Counts.{keys_reached}
use Rattle.unroll_bound.proofs.CountSteps.{sum_before, sum_none, sum_whole}
use Rattle.unroll_bound.proofs.counting.key_count.Goals as goal

pub loop-i-init : goal.loop-i-init
loop-i-init c = record { keys = sum_none (keys_reached (nth_size c.args.bounds.now)) c.args.tables.now; small = omega arith }

pub loop-i-preserved : goal.loop-i-preserved
loop-i-preserved c = record {
  keys = sum_before (keys_reached (nth_size c.args.bounds.now)) c.args.tables.now c.loop-i.i c.loop-i.count c.keys_of-count.result c.index-tables-i.result (omega arith) (omega arith) c.index-tables-i.is
      c.keys_of-count.ensures.keys c.loop-i.invariant.keys;
  small = (let s = c.loop-i.invariant.small in let t = c.keys_of-count.ensures.small in omega (arith, s, t));
}

pub returns-clause-keys : goal.returns-clause-keys
returns-clause-keys c = sum_whole (keys_reached (nth_size c.args.bounds.now)) c.args.tables.now c.loop-i.i c.loop-i.count (omega arith) c.loop-i.invariant.keys
