use Rattle.std.proofs.Common.{[], take, flat_map}
use Rattle.register_uses.specs.Walks.{Adds}
use Rattle.register_uses.proofs.ListLaws.{decl_given}
use Rattle.register_uses.proofs.program.uses_of.Given as goal

abbrev pub invariant-loop-decl : goal.invariant-loop-decl
invariant-loop-decl l = Adds [] l.uses.entries (flat_map decl_given (take l.decl-index l.decls))
