use Rattle.size_terms.proofs.WorthLaws.{Sums}
use Rattle.size_terms.proofs.worth.dot_of.Given as goal

abbrev pub invariant-loop-i : goal.invariant-loop-i
invariant-loop-i l = Sums l.by l.sizes l.i l.sum
