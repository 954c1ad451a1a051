use Rattle.std.proofs.Common.{take}
use Rattle.register_uses.specs.LocalTables.{named_by_actions}
use Rattle.register_uses.specs.Walks.{HasMarked}
use Rattle.register_uses.proofs.walk.mark_actions.Given as goal

abbrev pub invariant-loop-name : goal.invariant-loop-name
invariant-loop-name l = HasMarked l.actions l.initial.walk l.walk (named_by_actions l.actions (take l.name-index l.names))
