use Rattle.std.proofs.Common.{get_or, pos}
use Rattle.unroll_bound.specs.SizeRules.{lesser, most_times}
use Rattle.unroll_bound.proofs.SymbolListLaws.{ChangedBelow}
use Rattle.unroll_bound.proofs.rules.lower_each.Given as goal

abbrev pub invariant-loop-i : goal.invariant-loop-i
invariant-loop-i l = ChangedBelow (λ symbol bound. lesser (most_times l.fn.most (get_or l.by symbol (pos 0))) bound) l.initial.found l.found l.i
