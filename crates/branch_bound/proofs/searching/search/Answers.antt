use Rattle.std.proofs.Common.{◌<◌, refl, subst}
use Rattle.int_program.specs.Counting.{open_count}
use Rattle.branch_bound.specs.Lines.{IsBestKnown}
use Rattle.branch_bound.proofs.SettledLaws.{settles, unfinished, finished_best, finished_none, none_open}
use Rattle.branch_bound.proofs.searching.search.Goals as goal

pub returns-then-has_open : goal.returns-then-has_open
returns-then-has_open c =
    let s = settles c.args.ip.now c.args.limit _ _ _ (record { nodes = c.in_ok-tree.tree.nodes }) c.in_ok-best.ensures c.in_ok-tree.ensures in
    let some : 0 < open_count c.in_ok-tree.tree.nodes = subst (λ nodes. 0 < open_count nodes) c.as_slice.ensures (c.if-has_open.ensures.0 refl) in
    unfinished c.args.ip.now c.args.limit _ _ (record { nodes = c.in_ok-tree.tree.nodes }) c.requires.limits c.in_ok-best.ensures.best_known s some

pub returns-in-Some : goal.returns-in-Some
returns-in-Some c =
    let s = settles c.args.ip.now c.args.limit _ _ _ (record { nodes = c.in_ok-tree.tree.nodes }) c.in_ok-best.ensures c.in_ok-tree.ensures in
    let none = none_open c.in_ok-tree.tree.nodes c.as_slice.result.now c.as_slice.ensures c.if-has_open.ensures.1 in
    finished_best c.args.ip.now c.args.limit c.in-Some.point _ (record { nodes = c.in_ok-tree.tree.nodes }) (subst (λ best. IsBestKnown c.args.ip.now best c.in_ok-best.field-0.known) c.in-Some.is c.in_ok-best.ensures.best_known) s none

pub returns-in-None : goal.returns-in-None
returns-in-None c =
    let s = settles c.args.ip.now c.args.limit _ _ _ (record { nodes = c.in_ok-tree.tree.nodes }) c.in_ok-best.ensures c.in_ok-tree.ensures in
    let none = none_open c.in_ok-tree.tree.nodes c.as_slice.result.now c.as_slice.ensures c.if-has_open.ensures.1 in
    finished_none c.args.ip.now c.args.limit _ (record { nodes = c.in_ok-tree.tree.nodes }) (subst (λ best. IsBestKnown c.args.ip.now best c.in_ok-best.field-0.known) c.in-None.is c.in_ok-best.ensures.best_known) s none
