-- What is counted at the bounds of sizes before the variables and rows are added up; this project's own.
use Rattle.std.specs.Prelude.{◌≡◌, ℕ, ◌^◌, ◌≤◌, sum_by}
use Rattle.elastic_ast.specs.Units.PlainUnits.{PlainUnits}
use Rattle.unroll_bound.specs.declared.counting.LoopCounts.{LoopCounts}
use Rattle.unroll_bound.specs.declared.tally.Totals.{Totals as Counted}
use Rattle.unroll_bound.specs.Counts.{index_count, key_count, instance_count, symbolic_count, loop_row_count, looped_symbols}

-- no count of one kind is above this, so that sums of them stay within 128 bits
abbrev pub most_count : ℕ
most_count = 2 ^ 100

-- the indices and the rows of loops
pub record AreLoopCounts (units : PlainUnits) (bounds : ℕ → ℕ) (counts : LoopCounts) : Type 0 where
  pub indices : counts.indices ≡ index_count units bounds
  pub rows : counts.rows ≡ sum_by (loop_row_count bounds) (looped_symbols units)

pub record AreTotals (units : PlainUnits) (bounds : ℕ → ℕ) (counted : Counted) : Type 0 where
  pub loops : AreLoopCounts units bounds counted.loops
  pub keys : counted.keys ≡ key_count units.terms.steps bounds
  pub instances : counted.instances.all ≡ instance_count units.list bounds
  pub symbolic : counted.instances.symbolic ≡ symbolic_count units.list bounds

pub record AreSmallTotals (counted : Counted) : Type 0 where
  pub indices : counted.loops.indices ≤ most_count
  pub rows : counted.loops.rows ≤ most_count
  pub keys : counted.keys ≤ most_count
  pub instances : counted.instances.all ≤ most_count
  pub symbolic : counted.instances.symbolic ≤ most_count
