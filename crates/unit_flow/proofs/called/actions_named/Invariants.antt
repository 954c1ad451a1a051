use Rattle.std.proofs.Common.{◌≡◌, take}
use Rattle.std.specs.Prelude.{map}
use Rattle.elastic_ast.specs.Typing.LookUps.{action_of}
use Rattle.expr_types.specs.Scoped.{before_of}
use Rattle.unit_parts.specs.Called.{actions_shown}
use Rattle.unit_flow.proofs.called.actions_named.Given as goal

abbrev pub invariant-loop-name : goal.invariant-loop-name
invariant-loop-name l = actions_shown l.actions.items ≡ map (action_of (before_of l.scope)) (take l.name-index l.names)
