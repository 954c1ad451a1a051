use Rattle.std.proofs.Common.{length, take}
use Rattle.branch_bound.specs.States.{AreRowStates}
use Rattle.branch_bound.proofs.states.states_of.Given as goal

abbrev pub invariant-rows : goal.invariant-rows
invariant-rows l = AreRowStates (length l.ip.tops) l.within (take l.i l.rows) l.states.items
