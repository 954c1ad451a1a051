use Rattle.std.proofs.Common.{FitsSigned, rules}
use Rattle.std.proofs.lemmas.Int.{to_z-of_z}
use Rattle.std.specs.Int.{w128}
use Rattle.branch_bound.proofs.SplitLaws.{split_decided, not_single}
use Rattle.branch_bound.proofs.deciding.split_or_leave.Goals as goal

pub unreachable-requires : goal.unreachable-requires
unreachable-requires c =
    not_single c.args.ip.now c.args.known c.args.place.now c.requires.open_place c.requires.through c.requires.tried c.in-None.ensures.none

pub returns : goal.returns
returns c =
    let f : FitsSigned w128 c.in-Some.at = search rules in
    simp to_z-of_z (split_decided c.args.ip.now c.args.known c.args.may_split c.args.place.now c.in-Some.var c.in-Some.at c.requires.open_place c.requires.through c.if-not-may_split.false c.in-Some.ensures.found)
