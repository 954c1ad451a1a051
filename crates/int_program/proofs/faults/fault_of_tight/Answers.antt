use Rattle.std.proofs.Common.{length, Some, sym, ap, ◌∙◌}
use Rattle.int_program.specs.Accepts.{tight_fault}
use Rattle.int_program.proofs.FaultLaws.{row_small, row_there, row_absent}
use Rattle.int_program.proofs.faults.fault_of_tight.Goals as goal

pub fault_of_tight_row-requires-clause-small : goal.fault_of_tight_row-requires-clause-small
fault_of_tight_row-requires-clause-small c =
    row_small c.args.ip.now c.args.within.now _ _ c.args.row c.as_slice-rows.ensures c.requires.limits c.requires.inside c.if-row-rows.true c.index-rows-row.is

pub returns-then-row-rows : goal.returns-then-row-rows
returns-then-row-rows c =
    let there = row_there c.args.ip.now _ _ c.args.row c.as_slice-rows.ensures c.if-row-rows.true c.index-rows-row.is in
    c.fault_of_tight_row.ensures ∙ ap (λ n. tight_fault n c.args.within.now c.args.var (Some c.index-rows-row.result)) (ap length c.as_slice.ensures) ∙ ap (tight_fault (length c.args.ip.now.tops) c.args.within.now c.args.var) (sym there)

pub returns-else-row-rows : goal.returns-else-row-rows
returns-else-row-rows c =
    ap (tight_fault (length c.args.ip.now.tops) c.args.within.now c.args.var) (sym (row_absent c.args.ip.now _ c.args.row c.as_slice-rows.ensures c.if-row-rows.false))
