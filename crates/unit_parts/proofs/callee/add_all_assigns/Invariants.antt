use Rattle.std.proofs.Common.{◌≡◌, drop}
use Rattle.unit_parts.specs.Called.{actions_shown, callee_assigns}
use Rattle.unit_parts.specs.Gathered.{with_locations}
use Rattle.unit_parts.proofs.callee.add_all_assigns.Given as goal

abbrev pub invariant-loop-action : goal.invariant-loop-action
invariant-loop-action l = with_locations l.writes (callee_assigns (actions_shown (drop l.action-index l.actions))) ≡ with_locations l.initial.writes (callee_assigns (actions_shown l.actions))
