use Rattle.std.proofs.Common.{◌≡◌, ℕ, ◌<◌, get_or, Some, None}
use Rattle.int_program.specs.Accepts.{tight_fault}
use Rattle.int_program.proofs.SumLaws.{no_part}
use Rattle.branch_bound.proofs.testing.tight_variable.Given as goal

abbrev pub invariant-parts : goal.invariant-parts
invariant-parts l = (k : ℕ) → k < l.part-index → tight_fault l.count l.within (get_or l.part-items k no_part).var (Some l.row) ≡ None → ⊥
