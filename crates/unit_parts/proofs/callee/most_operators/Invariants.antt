use Rattle.std.proofs.Common.{◌≡◌, max, drop}
use Rattle.unit_parts.specs.Capped.{capped}
use Rattle.unit_parts.specs.Called.{actions_shown, greatest_ops}
use Rattle.unit_parts.proofs.callee.most_operators.Given as goal

abbrev pub invariant-loop-action : goal.invariant-loop-action
invariant-loop-action l = max l.most (capped (greatest_ops (actions_shown (drop l.action-index l.actions)))) ≡ capped (greatest_ops (actions_shown l.actions))
