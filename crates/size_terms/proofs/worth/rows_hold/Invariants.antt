use Rattle.std.proofs.Common.{take}
use Rattle.size_terms.specs.Rows.{RowsHold}
use Rattle.size_terms.proofs.worth.rows_hold.Given as goal

abbrev pub invariant-loop-row : goal.invariant-loop-row
invariant-loop-row l = RowsHold (take l.row-index l.rows) l.sizes
