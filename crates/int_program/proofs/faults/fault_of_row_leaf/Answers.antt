use Rattle.std.proofs.Common.{sym, ap, ◌∙◌}
use Rattle.int_program.specs.Accepts.{row_fault}
use Rattle.int_program.proofs.FaultLaws.{row_small, row_there, row_absent}
use Rattle.int_program.proofs.faults.fault_of_row_leaf.Goals as goal

pub fault_of_row-requires-clause-small : goal.fault_of_row-requires-clause-small
fault_of_row-requires-clause-small c =
    row_small c.args.ip.now c.args.within.now _ _ c.args.row c.as_slice-rows.ensures c.requires.limits c.requires.inside c.if-row-rows.true c.index-rows-row.is

pub returns-then-row-rows : goal.returns-then-row-rows
returns-then-row-rows c =
    c.fault_of_row.ensures ∙ ap (row_fault c.args.within.now) (sym (row_there c.args.ip.now _ _ c.args.row c.as_slice-rows.ensures c.if-row-rows.true c.index-rows-row.is))

pub returns-else-row-rows : goal.returns-else-row-rows
returns-else-row-rows c =
    ap (row_fault c.args.within.now) (sym (row_absent c.args.ip.now _ c.args.row c.as_slice-rows.ensures c.if-row-rows.false))
