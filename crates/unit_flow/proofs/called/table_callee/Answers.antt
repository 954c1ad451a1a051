use Rattle.std.proofs.Common.{ap, ◌∙◌}
use Rattle.expr_types.specs.Scoped.{before_of}
use Rattle.unit_parts.specs.Called.{actions_in}
use Rattle.unit_flow.proofs.called.table_callee.Goals as goal

pub returns : goal.returns
returns c = record { table = c.table-table.ensures; actions = c.in_ok-actions.ensures ∙ ap (actions_in (before_of c.args.scope.now)) c.table-table.ensures }
