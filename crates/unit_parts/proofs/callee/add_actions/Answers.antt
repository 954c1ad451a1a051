use Rattle.std.proofs.Common.{refl}
use Rattle.std.specs.Prelude.{flat_map}
use Rattle.elastic_ast.specs.Units.Reach.{action_reads}
use Rattle.expr_types.specs.ProgramParts.{action_shown}
use Rattle.unit_parts.specs.Called.{actions_shown}
use Rattle.unit_parts.proofs.GatheredLaws.{gather_on}
use Rattle.unit_parts.proofs.callee.add_actions.Goals as goal

pub loop-action-preserved : goal.loop-action-preserved
loop-action-preserved c =
    gather_on (λ xs. flat_map action_reads (actions_shown xs)) (action_reads (action_shown c.action-item.result)) c.args.actions.now c.loop-action.action-index c.action-item.result c.loop-action.reads c.add_action.new.reads _ refl c.loop-action-test.true
    c.action-item.is c.in_ok-add_action.ensures c.loop-action.invariant
