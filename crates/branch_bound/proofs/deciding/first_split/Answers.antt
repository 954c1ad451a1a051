use Rattle.branch_bound.proofs.SplitLaws.{single_from}
use Rattle.branch_bound.proofs.deciding.first_split.Goals as goal

pub returns-clause-none : goal.returns-clause-none
returns-clause-none c =
    single_from c.args.ip.now c.args.within.now c.as_slice-low.result.now c.variables.i c.as_slice-low.ensures c.variables-test.false c.requires.inside c.variables.invariant
