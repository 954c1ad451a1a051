use Rattle.std.proofs.Common.{drop, nat_eq}
use Rattle.std.specs.Prelude.{◌||◌}
use Rattle.std.specs.List.{list_any}
use Rattle.unroll_bound.specs.SymbolLists.{Changes}
use Rattle.unroll_bound.proofs.certain.mark_ones.Given as goal

abbrev pub invariant-loop-i : goal.invariant-loop-i
invariant-loop-i l = Changes (λ symbol mark. list_any (nat_eq symbol) (drop l.i l.ones) || mark) l.initial.marks l.marks
