use Rattle.int_program.proofs.SumLaws.{no_part}
use Rattle.branch_bound.proofs.TightScan.{row_loose}
use Rattle.branch_bound.proofs.testing.tight_variable.Goals as goal

pub returns-clause-none : goal.returns-clause-none
returns-clause-none c =
    row_loose c.args.count c.args.within.now c.args.row.now no_part c.as_slice-part-items.result.now c.parts.part-index c.as_slice-part-items.ensures c.parts-test.false c.parts.invariant
