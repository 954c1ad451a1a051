use Rattle.std.proofs.Common.{◌≡◌, ◌<◌, length, take, get_or, All, arith, sym, subst}
use Rattle.branch_bound.specs.Columns.{HaveRow, AreColumnsOf}
use Rattle.branch_bound.proofs.ListLaws.{take_more, take_past, length_take}
use Rattle.branch_bound.proofs.ColumnLaws.{no_rows, row_pushed}
use Rattle.branch_bound.proofs.columns.push_rows.Goals as goal

pub rows-init : goal.rows-init
rows-init c = no_rows (length c.args.lists.now) c.args.lists.now c.requires.empty

pub push_row-requires : goal.push_row-requires
push_row-requires c =
    subst (λ ps. All (λ p. p.var < length c.rows.lists) ps) (sym c.as_slice.ensures)
    (λ k d l. omega (arith, c.requires.vars c.rows.i c.index-rows-i.result c.rows-test.true k d l, c.rows.invariant.as_many))

pub rows-preserved : goal.rows-preserved
rows-preserved c =
    let rows = take c.rows.i c.args.rows.now in
    let few : length rows ≡ c.rows.i = length_take c.args.rows.now c.rows.i (omega (arith, c.rows-test.true)) in
    let row = get_or c.args.rows.now c.rows.i c.index-rows-i.result in
    let have = subst (λ ps. HaveRow (length rows) ps c.rows.lists c.push_row.new.lists) c.as_slice.ensures (subst (λ n. HaveRow n c.as_slice.result.now c.rows.lists c.push_row.new.lists) (sym few) c.in_ok-push_row.ensures) in
    subst (λ rows. AreColumnsOf (length c.args.lists.now) rows c.push_row.new.lists) (sym (take_more c.args.rows.now c.rows.i c.index-rows-i.result c.rows-test.true))
    (row_pushed (length c.args.lists.now) rows row c.rows.lists c.push_row.new.lists c.rows.invariant have)

pub returns : goal.returns
returns c =
    subst (λ rows. AreColumnsOf (length c.args.lists.now) rows c.rows.lists) (take_past c.args.rows.now c.rows.i c.rows-test.false) c.rows.invariant
