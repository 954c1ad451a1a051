use Rattle.std.proofs.Common.{ℕ, ◌<◌, ◌+◌, drop, get_or}
use Rattle.std.specs.Prelude.{All}
use Rattle.case_table.specs.Rows.{IsApart}
use Rattle.case_table.specs.declared.rows.Case.{Case}
use Rattle.case_table.proofs.rows.distinct.Given as goal

abbrev pub invariant-loop-i : goal.invariant-loop-i
invariant-loop-i l = (k : ℕ) → k < l.i → (d : Case) → All (IsApart (get_or l.table k d)) (drop (k + 1) l.table)
