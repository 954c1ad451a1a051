use Rattle.std.proofs.Common.{◌≡◌, take}
use Rattle.elastic_ast.specs.Containers.Slots.{entries, places}
use Rattle.elastic_ast.proofs.slot.in_one_order.Given as goal

abbrev pub invariant-loop-k : goal.invariant-loop-k
invariant-loop-k l = take l.k (places (entries l.slots)) ≡ take l.k (places (entries l.others))
