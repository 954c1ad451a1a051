use Rattle.std.proofs.Common.{take, flat_map}
use Rattle.register_uses.specs.LocalTables.{seen_locals}
use Rattle.register_uses.specs.Walks.{HasAdded}
use Rattle.register_uses.proofs.ListLaws.{units_given}
use Rattle.register_uses.proofs.walk.+walk.Given as goal

abbrev pub invariant-add_stmts-loop-stmt : goal.invariant-add_stmts-loop-stmt
invariant-add_stmts-loop-stmt l = HasAdded l.locals l.initial.walk l.walk (flat_map (units_given (seen_locals l.locals) l.looped) (take l.stmt-index l.stmts))
