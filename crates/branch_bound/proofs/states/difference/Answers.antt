use Rattle.std.proofs.Common.{rules}
use Rattle.std.proofs.lemmas.Int.{wrapping_sub_is}
use Rattle.std.specs.Int.{w128}
use Rattle.branch_bound.proofs.states.difference.Goals as goal

pub returns : goal.returns
returns c = wrapping_sub_is w128 c.args.a c.args.b (search rules) (search rules)
