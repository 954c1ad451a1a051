use Rattle.std.proofs.Common.{◌+◌, take, subst}
use Rattle.register_uses.specs.LocalTables.{named_by_action, named_by_actions}
use Rattle.register_uses.specs.Walks.{HasMarked}
use Rattle.register_uses.proofs.ListLaws.{given_more, given_all}
use Rattle.register_uses.proofs.WalkLaws.{has_marked, marked_none}
use Rattle.register_uses.proofs.walk.mark_actions.Goals as goal

pub loop-name-init : goal.loop-name-init
loop-name-init c = marked_none c.args.actions.now c.args.walk.now c.requires

pub mark_action-requires : goal.mark_action-requires
mark_action-requires c = c.loop-name.invariant.all

pub loop-name-preserved : goal.loop-name-preserved
loop-name-preserved c =
    has_marked c.args.actions.now c.args.walk.now c.loop-name.walk c.mark_action.new.walk (named_by_actions c.args.actions.now (take c.loop-name.name-index c.args.names.now)) (named_by_action c.args.actions.now c.name-item.result)
    (named_by_actions c.args.actions.now (take (c.loop-name.name-index + 1) c.args.names.now)) c.loop-name.invariant c.in_ok-mark_action.ensures
    (given_more (named_by_action c.args.actions.now) c.args.names.now c.loop-name.name-index c.name-item.result c.loop-name-test.true c.name-item.is)

pub returns : goal.returns
returns c = subst (HasMarked c.args.actions.now c.args.walk.now c.loop-name.walk) (given_all (named_by_action c.args.actions.now) c.args.names.now c.loop-name.name-index c.loop-name-test.false) c.loop-name.invariant
