use Rattle.std.proofs.Common.{◌≡◌, map, take, drop}
use Rattle.elastic_ast.specs.Containers.Slots.{entries, word_from}
use Rattle.elastic_ast.proofs.vector.Vector.give_to.Given as goal

abbrev pub invariant-loop-k : goal.invariant-loop-k
invariant-loop-k l = record {
  given : take l.k (entries l.slots) ≡ map (word_from l.self) (take l.k (entries l.initial.slots));
  left : drop l.k (entries l.slots) ≡ drop l.k (entries l.initial.slots);
}
