use Rattle.std.proofs.Common.{take}
use Rattle.branch_bound.specs.Columns.{HaveRow}
use Rattle.branch_bound.proofs.columns.push_row.Given as goal

abbrev pub invariant-loop-part : goal.invariant-loop-part
invariant-loop-part l = HaveRow l.row (take l.part-index l.parts) l.initial.lists l.lists
