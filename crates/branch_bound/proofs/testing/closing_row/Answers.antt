use Rattle.std.proofs.Common.{◌≡◌, length, slice_get, None, below_more, arith, ap, sym, ◌∙◌}
use Rattle.int_program.specs.Accepts.{row_fault}
use Rattle.branch_bound.proofs.PointLaws.{row_leaf_none}
use Rattle.branch_bound.proofs.StateLaws.{states_length}
use Rattle.branch_bound.proofs.RowLaws.{closes_by, stays_by}
use Rattle.branch_bound.proofs.testing.closing_row.Goals as goal

pub bounds-states-i : goal.bounds-states-i
bounds-states-i c =
    omega (arith, c.rows-test.true, ap length c.as_slice-rows.ensures, states_length (length c.args.ip.now.tops) c.args.within.now c.args.ip.now.rows c.args.states.now c.requires.states)

pub returns-then-closes-clause-found : goal.returns-then-closes-clause-found
returns-then-closes-clause-found c =
    closes_by c.args.ip.now c.args.within.now c.args.states.now c.as_slice-rows.result.now c.rows.i c.requires.limits c.requires.inside c.requires.states c.as_slice-rows.ensures c.rows-test.true c.index-rows-i.result c.index-rows-i.is
    (sym c.closes.ensures ∙ c.if-closes.true)

pub rows-preserved : goal.rows-preserved
rows-preserved c =
    below_more (λ k. row_fault c.args.within.now (slice_get c.args.ip.now.rows k) ≡ None → ⊥) _ c.rows.invariant
    (stays_by c.args.ip.now c.args.within.now c.args.states.now c.as_slice-rows.result.now c.rows.i c.requires.limits c.requires.inside c.requires.states c.as_slice-rows.ensures c.rows-test.true c.index-rows-i.result c.index-rows-i.is
    (sym c.closes.ensures ∙ c.if-closes.false))

pub returns-clause-none : goal.returns-clause-none
returns-clause-none c =
    row_leaf_none c.args.ip.now c.args.within.now c.rows.i (omega (arith, c.rows-test.false, c.rows.auto.i-end, ap length c.as_slice-rows.ensures)) c.rows.invariant
