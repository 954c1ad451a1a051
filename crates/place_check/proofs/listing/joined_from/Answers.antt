use Rattle.std.proofs.Common.{◌∙◌, sym, arith}
use Rattle.place_check.proofs.GroupLaws.{joined_one, joined_none}
use Rattle.place_check.proofs.listing.joined_from.Goals as goal

pub returns-then-not-joins-clause-joined : goal.returns-then-not-joins-clause-joined
returns-then-not-joins-clause-joined c =
    let h = joined_none c.args.loop_no c.args.size c.args.units.now c.loop-i.i c.index-units-i.result c.loop-i-test.true c.index-units-i.is (sym c.joins.ensures ∙ c.if-not-joins.true) in
    omega (arith, h, c.loop-i.invariant)

pub loop-i-preserved : goal.loop-i-preserved
loop-i-preserved c =
    let h = joined_one c.args.loop_no c.args.size c.args.units.now c.loop-i.i c.index-units-i.result c.loop-i-test.true c.index-units-i.is (sym c.joins.ensures ∙ c.if-not-joins.false) in
    omega (arith, h, c.loop-i.invariant)
