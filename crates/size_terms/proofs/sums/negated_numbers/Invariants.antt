use Rattle.std.proofs.Common.{◌≡◌, ◌++◌, map, drop, neg_ℤ}
use Rattle.size_terms.proofs.sums.negated_numbers.Given as goal

abbrev pub invariant-loop-number : goal.invariant-loop-number
invariant-loop-number l = l.other.items ++ map neg_ℤ (drop l.number-index l.numbers) ≡ map neg_ℤ l.numbers
