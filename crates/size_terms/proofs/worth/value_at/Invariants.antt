use Rattle.std.proofs.Common.{◌≡◌, ◌≤◌, true, drop}
use Rattle.std.specs.List.{list_all}
use Rattle.elastic_ast.specs.Sizes.SizeSums.{step_value}
use Rattle.size_terms.specs.Rows.{is_near_pair}
use Rattle.size_terms.proofs.worth.value_at.Given as goal

abbrev pub invariant-loop-pair : goal.invariant-loop-pair
invariant-loop-pair l = record {
  value : step_value l.size l.value (drop l.pair-index l.pairs) ≡ step_value l.size 0 l.pairs;
  most : l.value ≤ 1000000000;
  near : list_all is_near_pair (drop l.pair-index l.pairs) ≡ true;
}
