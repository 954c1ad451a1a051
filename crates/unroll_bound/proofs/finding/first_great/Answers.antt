use Rattle.std.proofs.Common.{get_or}
use Rattle.unroll_bound.proofs.FindingSteps.{small_more, small_all}
use Rattle.unroll_bound.proofs.SymbolListLaws.{in_range}
use Rattle.unroll_bound.proofs.finding.first_great.Goals as goal

pub loop-symbol-preserved : goal.loop-symbol-preserved
loop-symbol-preserved c =
    let here = get_or c.args.bounds.now c.loop-symbol.symbol 0 in
    small_more c.args.bounds.now c.loop-symbol.symbol here (in_range c.args.bounds.now c.loop-symbol.symbol 0 here c.loop-symbol-test.true) c.loop-symbol-test.true c.if-bounds-symbol-gt-MOST_BOUND.false
    c.loop-symbol.invariant

pub returns : goal.returns
returns c = small_all c.args.bounds.now c.loop-symbol.symbol c.loop-symbol-test.false c.loop-symbol.invariant
