use Rattle.std.proofs.Common.{◌≡◌, ◌*◌, ◌≤◌, drop, ◌+ℤ◌}
use Rattle.std.specs.Prelude.{unsigned_abs}
use Rattle.size_terms.specs.Rows.{tables_worth}
use Rattle.size_terms.proofs.worth.steps_of.Given as goal

abbrev pub invariant-loop-table : goal.invariant-loop-table
invariant-loop-table l = record {
  value : l.sum +ℤ tables_worth l.sizes (drop l.table-index l.tables) ≡ tables_worth l.sizes l.tables;
  most : unsigned_abs l.sum ≤ 1000000000 * l.table-index;
}
