use Rattle.std.proofs.Common.{◌≡◌, ◌≤ℤ◌, true, false, length, get_or, below_more, arith, refl, ap, sym, ◌∙◌}
use Rattle.int_program.specs.Sums.{sum_at}
use Rattle.int_program.specs.declared.program.Row.{Row}
use Rattle.branch_bound.proofs.PointLaws.{lows_point}
use Rattle.branch_bound.proofs.StateLaws.{states_length}
use Rattle.branch_bound.proofs.RowLaws.{breaks_by, holds_by}
use Rattle.branch_bound.proofs.testing.lows_hold.Goals as goal

pub bounds-states-i : goal.bounds-states-i
bounds-states-i c =
    omega (arith, c.rows-test.true, ap length c.as_slice-rows.ensures, states_length (length c.args.ip.now.tops) c.args.within.now c.args.ip.now.rows c.args.states.now c.requires.states)

wrong : false ≡ true → ⊥
wrong e = cc

pub returns-then-breaks : goal.returns-then-breaks
returns-then-breaks c = (
  λ e. absurd (wrong e),
  λ point. absurd (breaks_by c.args.ip.now c.args.within.now c.args.states.now c.as_slice-rows.result.now c.rows.i c.requires.limits c.requires.inside c.requires.states c.as_slice-rows.ensures c.rows-test.true c.index-rows-i.result c.index-rows-i.is
      (sym c.breaks.ensures ∙ c.if-breaks.true) point),
)

pub rows-preserved : goal.rows-preserved
rows-preserved c =
    below_more (λ k. (d : Row) → sum_at (get_or c.args.ip.now.rows k d).parts c.args.within.now.low ≤ℤ (get_or c.args.ip.now.rows k d).most) _ c.rows.invariant
    (holds_by c.args.ip.now c.args.within.now c.args.states.now c.as_slice-rows.result.now c.rows.i c.requires.limits c.requires.inside c.requires.states c.as_slice-rows.ensures c.rows-test.true c.index-rows-i.result c.index-rows-i.is
    (sym c.breaks.ensures ∙ c.if-breaks.false))

pub returns : goal.returns
returns c =
    (λ e. lows_point c.args.ip.now c.args.within.now c.requires.inside (λ k d l. c.rows.invariant k (omega (arith, l, c.rows-test.false, ap length c.as_slice-rows.ensures)) d), λ point. refl)
