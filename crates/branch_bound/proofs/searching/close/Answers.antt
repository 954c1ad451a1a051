use Rattle.std.proofs.Common.{sym, subst}
use Rattle.int_program.specs.Boxes.{IsInside}
use Rattle.int_program.proofs.InsideLaws.{root_inside}
use Rattle.branch_bound.proofs.searching.close.Goals as goal

pub states_of-requires-clause-inside : goal.states_of-requires-clause-inside
states_of-requires-clause-inside c = subst (IsInside c.args.ip.now) (sym c.in_ok-within.ensures) (root_inside c.args.ip.now c.requires)
