use Rattle.std.proofs.Common.{pos, set, get_or, drop, ◌+◌, ap, sym, refl, ◌∙◌}
use Rattle.branch_bound.specs.declared.columns.Entry.{Entry}
use Rattle.branch_bound.specs.States.{moved_rows}
use Rattle.branch_bound.proofs.ListLaws.{drop_more, drop_past}
use Rattle.branch_bound.proofs.states.move_rows.Goals as goal

pub loop-entry-init : goal.loop-entry-init
loop-entry-init c = refl

pub loop-entry-preserved : goal.loop-entry-preserved
loop-entry-preserved c =
    let entry : Entry = get_or c.args.column.now c.loop-entry.entry-index (record { row = 0; by = pos 0 }) in
    ap (λ s. moved_rows c.args.own c.args.ends (drop (c.loop-entry.entry-index + 1) c.args.column.now) (set c.loop-entry.states entry.row s)) c.moved.ensures
    ∙ sym (ap (λ es. moved_rows c.args.own c.args.ends es c.loop-entry.states) (drop_more c.args.column.now c.loop-entry.entry-index (record { row = 0; by = pos 0 }) c.loop-entry-test.true))
    ∙ c.loop-entry.invariant

pub returns : goal.returns
returns c =
    sym (ap (λ es. moved_rows c.args.own c.args.ends es c.loop-entry.states) (drop_past c.args.column.now c.loop-entry.entry-index c.loop-entry-test.false)) ∙ c.loop-entry.invariant
