use Rattle.std.proofs.Common.{take, flat_map}
use Rattle.register_uses.specs.Walks.{Marks}
use Rattle.register_uses.proofs.ListLaws.{plain_given}
use Rattle.register_uses.proofs.uses.mark_body.Given as goal

abbrev pub invariant-loop-stmt : goal.invariant-loop-stmt
invariant-loop-stmt l = Marks l.initial.uses.entries l.uses.entries (flat_map plain_given (take l.stmt-index l.body))
