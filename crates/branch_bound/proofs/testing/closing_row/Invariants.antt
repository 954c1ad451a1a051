use Rattle.std.proofs.Common.{◌≡◌, ℕ, ◌<◌, slice_get, None}
use Rattle.int_program.specs.Accepts.{row_fault}
use Rattle.branch_bound.proofs.testing.closing_row.Given as goal

abbrev pub invariant-rows : goal.invariant-rows
invariant-rows l = (k : ℕ) → k < l.i → row_fault l.within (slice_get l.ip.rows k) ≡ None → ⊥
