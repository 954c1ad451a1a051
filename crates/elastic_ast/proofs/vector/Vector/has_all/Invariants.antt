use Rattle.std.proofs.Common.{ℕ, ◌<◌, [], get_or, IsTrue}
use Rattle.std.specs.FinMap as map
use Rattle.elastic_ast.specs.Containers.Slots.{entries, places}
use Rattle.elastic_ast.proofs.vector.Vector.has_all.Given as goal

abbrev pub invariant-loop-slot : goal.invariant-loop-slot
invariant-loop-slot l =
    (k : ℕ) → k < l.slot-index → IsTrue (map.contains_key l.self (get_or (places (entries l.slots)) k []))
