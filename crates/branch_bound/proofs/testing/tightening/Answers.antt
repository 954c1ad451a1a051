use Rattle.std.proofs.Common.{◌≡◌, ℕ, ◌≤◌, length, below_more, slice_get, Some, None, arith, sym, subst, ap, ◌∙◌}
use Rattle.int_program.specs.Accepts.{tight_fault}
use Rattle.int_program.proofs.FaultLaws.{row_small, row_there}
use Rattle.branch_bound.proofs.StateLaws.{states_length}
use Rattle.branch_bound.proofs.RowLaws.{state_here, state_back}
use Rattle.branch_bound.proofs.TightScan.{tight_none}
use Rattle.branch_bound.proofs.testing.tightening.Goals as goal

pub bounds-states-i : goal.bounds-states-i
bounds-states-i c =
    omega (arith, c.rows-test.true, ap length c.as_slice-rows.ensures, states_length (length c.args.ip.now.tops) c.args.within.now c.args.ip.now.rows c.rows.states c.rows.invariant.are)

pub tight_in-requires-clause-small : goal.tight_in-requires-clause-small
tight_in-requires-clause-small c =
    row_small c.args.ip.now c.args.within.now _ _ c.rows.i c.as_slice-rows.ensures c.requires.limits c.requires.inside c.rows-test.true c.index-rows-i.is

pub tight_in-requires-clause-state : goal.tight_in-requires-clause-state
tight_in-requires-clause-state c =
    state_here c.args.ip.now c.args.within.now c.rows.states c.as_slice-rows.result.now c.rows.i c.requires.limits c.requires.inside c.rows.invariant.are c.as_slice-rows.ensures c.rows-test.true c.index-rows-i.result c.index-rows-i.is
    (length c.as_slice-count.result.now) (ap length c.as_slice-count.ensures)

pub returns-in-Some-clause-states : goal.returns-in-Some-clause-states
returns-in-Some-clause-states c =
    state_back c.args.ip.now c.args.within.now c.rows.states c.as_slice-rows.result.now c.rows.i c.requires.limits c.requires.inside c.rows.invariant.are c.as_slice-rows.ensures c.rows-test.true c.index-rows-i.result c.index-rows-i.is
    (length c.as_slice-count.result.now) c.tight_in.new.state (ap length c.as_slice-count.ensures) c.tight_in.ensures.state

pub returns-in-Some-clause-found : goal.returns-in-Some-clause-found
returns-in-Some-clause-found c =
    let there = row_there c.args.ip.now _ _ c.rows.i c.as_slice-rows.ensures c.rows-test.true c.index-rows-i.is in
    ap (tight_fault (length c.args.ip.now.tops) c.args.within.now c.in-Some.var) there
    ∙ subst (λ n. tight_fault n c.args.within.now c.in-Some.var (Some c.index-rows-i.result) ≡ None) (ap length c.as_slice-count.ensures) c.in-Some.ensures.found

pub rows-preserved : goal.rows-preserved
rows-preserved c =
    let there = row_there c.args.ip.now _ _ c.rows.i c.as_slice-rows.ensures c.rows-test.true c.index-rows-i.is in
    let none = subst (λ n. (v : ℕ) → tight_fault n c.args.within.now v (Some c.index-rows-i.result) ≡ None → ⊥) (ap length c.as_slice-count.ensures) c.in-None.ensures.none in
    record {
      are = state_back c.args.ip.now c.args.within.now c.rows.states c.as_slice-rows.result.now c.rows.i c.requires.limits c.requires.inside c.rows.invariant.are c.as_slice-rows.ensures c.rows-test.true c.index-rows-i.result c.index-rows-i.is
          (length c.as_slice-count.result.now) c.tight_in.new.state (ap length c.as_slice-count.ensures) c.tight_in.ensures.state;
      none = below_more (λ k. (v : ℕ) → tight_fault (length c.args.ip.now.tops) c.args.within.now v (slice_get c.args.ip.now.rows k) ≡ None → ⊥) _ c.rows.invariant.none
          (λ v f. none v (sym (ap (tight_fault (length c.args.ip.now.tops) c.args.within.now v) there) ∙ f));
    }

pub returns-clause-none : goal.returns-clause-none
returns-clause-none c =
    tight_none c.args.ip.now c.args.within.now c.rows.i (subst (λ rows. length rows ≤ c.rows.i) c.as_slice-rows.ensures c.rows-test.false) c.rows.invariant.none
