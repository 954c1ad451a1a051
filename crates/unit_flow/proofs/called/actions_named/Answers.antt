use Rattle.elastic_ast.specs.Typing.LookUps.{action_of}
use Rattle.expr_types.specs.Scoped.{before_of}
use Rattle.expr_types.specs.ProgramParts.{action_shown}
use Rattle.unit_flow.proofs.SummaryLaws.{made_more}
use Rattle.unit_flow.proofs.called.actions_named.Goals as goal

pub loop-name-preserved : goal.loop-name-preserved
loop-name-preserved c =
    made_more action_shown (action_of (before_of c.args.scope.now)) c.loop-name.actions.items c.push.new.self.items c.action.result c.args.names.now c.loop-name.name-index c.name-item.result c.in_ok-push.ensures.items c.action.ensures c.loop-name-test.true
    c.name-item.is c.loop-name.invariant
