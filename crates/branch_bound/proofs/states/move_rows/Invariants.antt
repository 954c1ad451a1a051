use Rattle.std.proofs.Common.{◌≡◌, drop}
use Rattle.branch_bound.specs.States.{moved_rows}
use Rattle.branch_bound.proofs.states.move_rows.Given as goal

abbrev pub invariant-loop-entry : goal.invariant-loop-entry
invariant-loop-entry l = moved_rows l.own l.ends (drop l.entry-index l.column) l.states ≡ moved_rows l.own l.ends l.column l.initial.states
