use Rattle.std.proofs.Common.{sym, subst}
use Rattle.int_program.specs.Sums.{at}
use Rattle.int_program.specs.Tightening.{factor, left_over, IsTightened}
use Rattle.int_program.proofs.NarrowLaws.{tightened}
use Rattle.int_program.proofs.tightening.tighten.Goals as goal

pub returns-clause-exact : goal.returns-clause-exact
returns-clause-exact c =
    let b = c.args.within.now in
    let v = c.args.var in
    let a = factor c.args.row.now.parts v in
    let rest = left_over c.args.row.now v b in
    subst (IsTightened a rest (at b.low v) (at b.high v)) (sym c.ends_left.ensures) (tightened a rest (at b.low v) (at b.high v) (c.requires.nonempty.ends v))
