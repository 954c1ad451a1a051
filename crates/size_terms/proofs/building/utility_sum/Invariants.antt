use Rattle.std.proofs.Common.{◌≡◌, ◌*◌, ◌≤◌, ℕ, List, true, drop, length, ◌+ℤ◌}
use Rattle.std.specs.List.{list_all}
use Rattle.size_terms.specs.Growth.{sum_worth, bulk, linears_value}
use Rattle.size_terms.specs.Building.{is_near_util}
use Rattle.size_terms.proofs.building.utility_sum.Given as goal

abbrev pub invariant-loop-term : goal.invariant-loop-term
invariant-loop-term l = record {
  worth : (sizes : List ℕ) → sum_worth l.sum sizes +ℤ linears_value l.places sizes (drop l.term-index l.terms) ≡ linears_value l.places sizes l.terms;
  dense : length l.sum.by.items ≡ l.symbols;
  bulky : bulk l.sum ≤ 1000000000 * l.term-index;
  near : list_all (is_near_util l.places) (drop l.term-index l.terms) ≡ true;
}
