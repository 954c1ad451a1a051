use Rattle.std.proofs.Common.{take}
use Rattle.size_terms.specs.Rows.{OnesHold}
use Rattle.size_terms.proofs.worth.ones_hold.Given as goal

abbrev pub invariant-loop-place : goal.invariant-loop-place
invariant-loop-place l = OnesHold l.sizes (take l.place-index l.ones)
