use Rattle.std.proofs.Common.{drop, length}
use Rattle.std.specs.List.{list_any}
use Rattle.unroll_bound.specs.SizeRules.{needs_one}
use Rattle.unroll_bound.specs.SymbolLists.{IsListOf}
use Rattle.unroll_bound.proofs.certain.mark_rows.Given as goal

abbrev pub invariant-loop-i : goal.invariant-loop-i
invariant-loop-i l = IsListOf (length l.initial.marks) (λ symbol. list_any (needs_one symbol) (drop l.i l.rows)) l.marks
