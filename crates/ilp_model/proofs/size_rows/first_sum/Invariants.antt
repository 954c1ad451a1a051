use Rattle.std.proofs.Common.{◌≡◌, ◌*◌, ◌≤◌, drop, ◌+ℤ◌}
use Rattle.std.specs.Prelude.{unsigned_abs}
use Rattle.ilp_model.specs.Objective.{first_values}
use Rattle.ilp_model.proofs.size_rows.first_sum.Given as goal

abbrev pub invariant-loop-table : goal.invariant-loop-table
invariant-loop-table l = record {
  value : l.sum +ℤ first_values (drop l.table-index l.tables) ≡ first_values l.tables;
  most : unsigned_abs l.sum ≤ 18446744073709551616 * l.table-index;
}
