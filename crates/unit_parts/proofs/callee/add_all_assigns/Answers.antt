use Rattle.std.proofs.Common.{refl}
use Rattle.elastic_ast.specs.Units.Reach.{action_assigns}
use Rattle.expr_types.specs.ProgramParts.{action_shown}
use Rattle.unit_parts.specs.Called.{actions_shown, callee_assigns}
use Rattle.unit_parts.proofs.GatheredLaws.{gather_on}
use Rattle.unit_parts.proofs.callee.add_all_assigns.Goals as goal

pub loop-action-preserved : goal.loop-action-preserved
loop-action-preserved c =
    gather_on (λ xs. callee_assigns (actions_shown xs)) (action_assigns (action_shown c.action-item.result)) c.args.actions.now c.loop-action.action-index c.action-item.result c.loop-action.writes c.add_assigns.new.writes _ refl c.loop-action-test.true
    c.action-item.is c.in_ok-add_assigns.ensures c.loop-action.invariant
