use Rattle.std.proofs.Common.{◌≡◌, drop}
use Rattle.std.specs.Prelude.{flat_map}
use Rattle.elastic_ast.specs.Units.Reach.{action_reads}
use Rattle.unit_parts.specs.Called.{actions_shown}
use Rattle.unit_parts.specs.Gathered.{with_locations}
use Rattle.unit_parts.proofs.callee.add_actions.Given as goal

abbrev pub invariant-loop-action : goal.invariant-loop-action
invariant-loop-action l = with_locations l.reads (flat_map action_reads (actions_shown (drop l.action-index l.actions))) ≡ with_locations l.initial.reads (flat_map action_reads (actions_shown l.actions))
