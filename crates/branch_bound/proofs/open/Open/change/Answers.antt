use Rattle.std.proofs.Common.{arith}
use Rattle.branch_bound.proofs.TrailLaws.{change_behind}
use Rattle.branch_bound.proofs.open.Open.change.Goals as goal

pub returns-clause-behind : goal.returns-clause-behind
returns-clause-behind c =
    change_behind c.args.within c.narrowed.result c.args.var c.args.ends c.ends_of-own.result c.args.self.now c.push.new.self (omega (arith, c.requires.var, c.requires.low_count)) (omega (arith, c.requires.var, c.requires.high_count)) c.narrowed.ensures c.ends_of-own.ensures c.in_ok-push.ensures
