use Rattle.std.proofs.Common.{◌≡◌, ◌++◌, drop}
use Rattle.size_terms.specs.Ones.{set_from, set_marks}
use Rattle.size_terms.proofs.ones.numbers_of.Given as goal

abbrev pub invariant-loop-place : goal.invariant-loop-place
invariant-loop-place l = l.numbers ++ set_from l.place (drop l.place l.marks) ≡ set_marks l.marks
