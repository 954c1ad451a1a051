use Rattle.std.proofs.Common.{[], ◌∷◌, ◌++◌, length, take, sym, ap, subst, ◌∙◌}
use Rattle.int_program.proofs.FaultLaws.{row_small}
use Rattle.branch_bound.specs.States.{AreRowStates}
use Rattle.branch_bound.proofs.ListLaws.{take_more, take_past}
use Rattle.branch_bound.proofs.StateLaws.{states_more}
use Rattle.branch_bound.proofs.states.states_of.Goals as goal

pub rows-init : goal.rows-init
rows-init c = subst (AreRowStates (length c.args.ip.now.tops) c.args.within.now []) (sym c.new-states.ensures.items) tt

pub state_of-requires-clause-small : goal.state_of-requires-clause-small
state_of-requires-clause-small c =
    row_small c.args.ip.now c.args.within.now _ _ c.rows.i c.as_slice-rows.ensures c.requires.limits c.requires.inside c.rows-test.true c.index-rows-i.is

pub rows-preserved : goal.rows-preserved
rows-preserved c =
    let n = length c.args.ip.now.tops in
    let b = c.args.within.now in
    let row = c.index-rows-i.result in
    let more = states_more n b (take c.rows.i c.as_slice-rows.result.now) c.rows.states.items row c.state_of.result c.rows.invariant (c.state_of.ensures n) in
    let taken = take_more c.as_slice-rows.result.now c.rows.i row c.rows-test.true ∙ ap (λ r. take c.rows.i c.as_slice-rows.result.now ++ r ∷ []) (sym c.index-rows-i.is) in
    subst (λ rows. AreRowStates n b rows c.push.new.self.items) (sym taken) (subst (AreRowStates n b (take c.rows.i c.as_slice-rows.result.now ++ row ∷ [])) (sym c.in_ok-push.ensures.items) more)

pub returns : goal.returns
returns c =
    subst (λ rows. AreRowStates (length c.args.ip.now.tops) c.args.within.now rows c.rows.states.items) (take_past c.as_slice-rows.result.now c.rows.i c.rows-test.false ∙ c.as_slice-rows.ensures) c.rows.invariant
