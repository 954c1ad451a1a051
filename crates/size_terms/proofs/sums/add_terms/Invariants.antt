use Rattle.std.proofs.Common.{◌≡◌, ◌+◌, ◌*◌, ◌≤◌, ℕ, List, true, drop, length, ◌+ℤ◌}
use Rattle.std.specs.List.{list_all}
use Rattle.elastic_ast.specs.Sizes.SizeSums.{negated_if, sum_value}
use Rattle.size_terms.specs.Growth.{sum_worth, bulk, is_near}
use Rattle.size_terms.proofs.sums.add_terms.Given as goal

abbrev pub invariant-loop-term : goal.invariant-loop-term
invariant-loop-term l = record {
  worth : (sizes : List ℕ) → sum_worth l.sum sizes +ℤ negated_if l.minus (sum_value l.places sizes (drop l.term-index l.terms)) ≡ sum_worth l.initial.sum sizes +ℤ negated_if l.minus (sum_value l.places sizes l.terms);
  dense : length l.sum.by.items ≡ length l.initial.sum.by.items;
  bulky : bulk l.sum ≤ bulk l.initial.sum + 1000000000 * l.term-index;
  near : list_all is_near (drop l.term-index l.terms) ≡ true;
}
