use Rattle.std.proofs.Common.{get_or, sym, subst}
use Rattle.int_program.proofs.SumLaws.{no_part}
use Rattle.branch_bound.specs.Columns.{HaveRow}
use Rattle.branch_bound.proofs.ListLaws.{take_more, take_past}
use Rattle.branch_bound.proofs.ColumnLaws.{no_parts, part_pushed}
use Rattle.branch_bound.proofs.columns.push_row.Goals as goal

pub loop-part-init : goal.loop-part-init
loop-part-init c = no_parts c.args.row c.args.lists.now

pub loop-part-preserved : goal.loop-part-preserved
loop-part-preserved c =
    subst (λ ps. HaveRow c.args.row ps c.args.lists.now c.push_part.new.lists) (sym (take_more c.args.parts.now c.loop-part.part-index no_part c.loop-part-test.true))
    (part_pushed c.args.row _ (get_or c.args.parts.now c.loop-part.part-index no_part) c.args.lists.now c.loop-part.lists c.push_part.new.lists
    (c.requires c.loop-part.part-index no_part c.loop-part-test.true) c.loop-part.invariant c.in_ok-push_part.ensures)

pub returns : goal.returns
returns c =
    subst (λ ps. HaveRow c.args.row ps c.args.lists.now c.loop-part.lists) (take_past c.args.parts.now c.loop-part.part-index c.loop-part-test.false) c.loop-part.invariant
