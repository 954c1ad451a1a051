use Rattle.std.proofs.Common.{◌≡◌, take}
use Rattle.elastic_ast.specs.Containers.Slots.{entries, places}
use Rattle.elastic_ast.proofs.slot.copy_in_order.Given as goal

abbrev pub invariant-loop-k : goal.invariant-loop-k
invariant-loop-k l = record {
  one_order : places (entries l.slots) ≡ places (entries l.from);
  copied : take l.k (entries l.slots) ≡ take l.k (entries l.from);
}
