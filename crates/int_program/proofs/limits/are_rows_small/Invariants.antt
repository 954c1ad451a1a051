use Rattle.std.proofs.Common.{All, take}
use Rattle.int_program.specs.Limits.{AreSmall}
use Rattle.int_program.proofs.limits.are_rows_small.Given as goal

abbrev pub invariant-loop-row : goal.invariant-loop-row
invariant-loop-row l = All (λ row. AreSmall row.parts row.most l.tops) (take l.row-index l.rows)
