use Rattle.std.proofs.Common.{refl}
use Rattle.elastic_ast.specs.Units.Costs.{action_ops}
use Rattle.expr_types.specs.ProgramParts.{action_shown}
use Rattle.unit_parts.specs.Called.{actions_shown, greatest_ops}
use Rattle.unit_parts.proofs.CappedLaws.{most_on, most_all}
use Rattle.unit_parts.proofs.callee.most_operators.Goals as goal

pub loop-action-preserved : goal.loop-action-preserved
loop-action-preserved c =
    most_on (λ xs. greatest_ops (actions_shown xs)) (action_ops (action_shown c.action-item.result)) c.args.actions.now c.loop-action.action-index c.action-item.result c.loop-action.most c.action_operators.result c.max-most.result _
    refl c.loop-action-test.true c.action-item.is c.action_operators.ensures c.max-most.ensures c.loop-action.invariant

pub returns : goal.returns
returns c = most_all (λ xs. greatest_ops (actions_shown xs)) c.args.actions.now c.loop-action.action-index c.loop-action.most _ refl c.loop-action-test.false c.loop-action.invariant
