use Rattle.std.proofs.Common.{take}
use Rattle.case_table.proofs.RowLemmas.{IsWalked}
use Rattle.case_table.proofs.rows.munch.Given as goal

abbrev pub invariant-loop-row : goal.invariant-loop-row
invariant-loop-row l = IsWalked (take l.row-index l.table) l.rest l.best l.longest
