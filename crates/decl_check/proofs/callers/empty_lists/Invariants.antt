use Rattle.decl_check.specs.CallerSizes.{AreEmpty}
use Rattle.decl_check.proofs.callers.empty_lists.Given as goal

abbrev pub invariant-loop : goal.invariant-loop
invariant-loop l = AreEmpty l.counter l.lists.items
