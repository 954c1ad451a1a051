use Rattle.std.proofs.Common.{drop, length}
use Rattle.unroll_bound.specs.SizeRules.{rows_bound}
use Rattle.unroll_bound.specs.SymbolLists.{IsListOf}
use Rattle.unroll_bound.proofs.rules.lower_by_rows.Given as goal

abbrev pub invariant-loop-i : goal.invariant-loop-i
invariant-loop-i l = IsListOf (length l.initial.found) (λ symbol. rows_bound symbol (drop l.i l.rows)) l.found
