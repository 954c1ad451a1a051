use Rattle.std.proofs.Common.{◌<◌, length, Some, None, sym, subst, ◌∙◌}
use Rattle.int_program.proofs.FaultLaws.{row_small, row_there}
use Rattle.branch_bound.proofs.BoxLaws.{child_is, row_within}
use Rattle.branch_bound.proofs.boxes.tightened.Goals as goal

pub tighten-requires-clause-small : goal.tighten-requires-clause-small
tighten-requires-clause-small c =
    row_small c.args.ip.now c.args.within _ _ c.args.row c.as_slice.ensures c.requires.limits c.requires.inside (subst (λ rows. c.args.row < length rows) (sym c.as_slice.ensures) (row_within (length c.args.ip.now.tops) c.args.within c.args.var c.args.ip.now.rows c.args.row c.requires.accepted)) c.index-as_slice-row.is

pub returns-in-None-clause-child : goal.returns-in-None-clause-child
returns-in-None-clause-child c =
    child_is c.args.within c.args.var c.index-as_slice-row.result _ None c.in-None.ensures.value (row_there c.args.ip.now _ _ c.args.row c.as_slice.ensures (subst (λ rows. c.args.row < length rows) (sym c.as_slice.ensures) (row_within (length c.args.ip.now.tops) c.args.within c.args.var c.args.ip.now.rows c.args.row c.requires.accepted)) c.index-as_slice-row.is)

pub returns-in_ok-child-in-Some-clause-child : goal.returns-in_ok-child-in-Some-clause-child
returns-in_ok-child-in-Some-clause-child c =
    c.in_ok-child-in-Some.ensures.changed ∙ child_is c.args.within c.args.var c.index-as_slice-row.result _ (Some c.in-Some.ends) c.in-Some.ensures.value (row_there c.args.ip.now _ _ c.args.row c.as_slice.ensures (subst (λ rows. c.args.row < length rows) (sym c.as_slice.ensures) (row_within (length c.args.ip.now.tops) c.args.within c.args.var c.args.ip.now.rows c.args.row c.requires.accepted)) c.index-as_slice-row.is)
