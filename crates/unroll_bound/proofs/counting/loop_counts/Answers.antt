use Rattle.std.proofs.Common.{◌≡◌, ◌+◌, ◌-◌, ◌∙◌, length, map, refl, ap, arith}
use Rattle.std.specs.Prelude.{if◌then◌else◌}
use Rattle.elastic_ast.specs.Units.Instances.{nth_size}
use Rattle.elastic_ast.specs.Units.SeenUnits.{seen_unit}
use Rattle.unroll_bound.specs.Counts.{is_looped, loop_row_count}
use Rattle.unroll_bound.specs.declared.loop_uses.LoopUse.{LoopUse}
use Rattle.unroll_bound.proofs.CountSteps.{looped_more}
use Rattle.unroll_bound.proofs.counting.loop_counts.Goals as goal

pub loop-symbol-preserved : goal.loop-symbol-preserved
loop-symbol-preserved c =
    let units = map seen_unit c.args.units.now.list in
    let symbol = c.loop-symbol.symbol in
    let bound = nth_size c.args.bounds.now symbol in
    let count = ap length c.as_slice-symbol-end.ensures in
    let dense = c.requires.dense in
    let indices : c.indices_of-indices.result ≡ (if is_looped units symbol then bound else 0) =
    c.indices_of-indices.ensures.indices ∙ ap (λ (one : LoopUse). if one.looped then bound else 0) (c.requires.uses.each symbol _ (omega (arith, count, dense))) in
    let rows : c.loop_rows_of-rows.result ≡ (if is_looped units symbol then 2 + (bound - 1) else 0) =
    c.loop_rows_of-rows.ensures.rows ∙ ap (λ (one : LoopUse). if one.looped then 2 + (bound - 1) else 0) (c.requires.uses.each symbol _ (omega (arith, count, dense))) in
    record {
      indices = looped_more (nth_size c.args.bounds.now) units symbol c.loop-symbol.indices c.indices_of-indices.result (is_looped units symbol) refl indices c.loop-symbol.invariant.indices;
      rows = looped_more (loop_row_count (nth_size c.args.bounds.now)) units symbol c.loop-symbol.rows c.loop_rows_of-rows.result (is_looped units symbol) refl rows c.loop-symbol.invariant.rows;
      indices_small = (let s = c.loop-symbol.invariant.indices_small in let t = c.indices_of-indices.ensures.small in omega (arith, s, t));
      rows_small = (let s = c.loop-symbol.invariant.rows_small in let t = c.loop_rows_of-rows.ensures.small in omega (arith, s, t));
    }
