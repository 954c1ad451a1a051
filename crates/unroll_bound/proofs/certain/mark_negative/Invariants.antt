use Rattle.std.proofs.Common.{get_or, pos}
use Rattle.std.specs.Prelude.{◌||◌}
use Rattle.unroll_bound.specs.SizeRules.{is_negative}
use Rattle.unroll_bound.proofs.SymbolListLaws.{ChangedBelow}
use Rattle.unroll_bound.proofs.certain.mark_negative.Given as goal

abbrev pub invariant-loop-i : goal.invariant-loop-i
invariant-loop-i l = ChangedBelow (λ symbol mark. is_negative (get_or l.by symbol (pos 0)) || mark) l.initial.marks l.marks l.i
