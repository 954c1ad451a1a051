use Rattle.std.proofs.Common.{◌≤◌, length}
use Rattle.ilp_model.specs.Marks.{AreStarts}
use Rattle.ilp_model.proofs.numbering.loop_starts.Given as goal

abbrev pub invariant-loop-symbol : goal.invariant-loop-symbol
invariant-loop-symbol l = record { starts : AreStarts l.uses l.bounds l.symbol l.loops l.past; within : l.symbol ≤ length l.uses }
