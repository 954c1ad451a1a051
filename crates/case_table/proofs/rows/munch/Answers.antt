use Rattle.std.proofs.Common.{refl}
use Rattle.std.proofs.lemmas.Bool.{false≢true}
use Rattle.case_table.proofs.RowLemmas.{walked_none, walked_longer, walked_kept, walked_all, no_row}
use Rattle.case_table.proofs.rows.munch.Goals as goal
use Rattle.case_table.proofs.rows.munch.Goals.{then-is_longer, else-is_longer}

pub loop-row-init : goal.loop-row-init
loop-row-init c = walked_none _

pub loop-row-preserved : goal.loop-row-preserved
loop-row-preserved c = elim c.if-is_longer.branch [
  | then-is_longer w ↦ rw (w.best-is, w.longest-is)
      (walked_longer _ _ c.loop-row.best c.loop-row.longest _ no_row c.loop-row-test.true c.loop-row.invariant (w.if-is_longer.ensures.0 refl))
  | else-is_longer w ↦ rw (w.best-is, w.longest-is)
      (walked_kept _ _ c.loop-row.best c.loop-row.longest _ no_row c.loop-row-test.true c.loop-row.invariant
      (λ both. false≢true (w.if-is_longer.ensures.1 both)))
]

pub returns : goal.returns
returns c = walked_all _ c.args.text.now c.args.at _ _ _ c.loop-row-test.false c.loop-row.invariant
