use Rattle.std.proofs.Common.{length, take}
use Rattle.branch_bound.specs.Columns.{AreColumnsOf}
use Rattle.branch_bound.proofs.columns.push_rows.Given as goal

abbrev pub invariant-rows : goal.invariant-rows
invariant-rows l = AreColumnsOf (length l.initial.lists) (take l.i l.rows) l.lists
