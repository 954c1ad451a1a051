use Rattle.unroll_bound.proofs.CountLaws.{instances_counted}
use Rattle.unroll_bound.proofs.law.instances_are_counted.Goals as goal

pub returns : goal.returns
returns c = instances_counted
