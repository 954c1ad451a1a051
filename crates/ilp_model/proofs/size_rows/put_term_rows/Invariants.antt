use Rattle.std.proofs.Common.{◌≡◌, ◌++◌, drop, map}
use Rattle.ilp_model.specs.Written.{written_term}
use Rattle.ilp_model.proofs.size_rows.put_term_rows.Given as goal

abbrev pub invariant-loop-linear : goal.invariant-loop-linear
invariant-loop-linear l = l.rows ++ map written_term (drop l.linear-index l.terms) ≡ l.initial.rows ++ map written_term l.terms
