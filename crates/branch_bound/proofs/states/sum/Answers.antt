use Rattle.std.proofs.Common.{rules}
use Rattle.std.proofs.lemmas.Int.{wrapping_add_is}
use Rattle.std.specs.Int.{w128}
use Rattle.branch_bound.proofs.states.sum.Goals as goal

pub returns : goal.returns
returns c = wrapping_add_is w128 c.args.a c.args.b (search rules) (search rules)
