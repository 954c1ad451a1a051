use Rattle.branch_bound.specs.Columns.{AreEmpty}
use Rattle.branch_bound.proofs.columns.empty_lists.Given as goal

abbrev pub invariant-loop : goal.invariant-loop
invariant-loop l = AreEmpty l.counter l.lists.items
