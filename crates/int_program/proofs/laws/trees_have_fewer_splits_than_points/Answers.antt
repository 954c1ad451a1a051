use Rattle.int_program.proofs.CountLaws.{accepted_fewer, cut_fewer}
use Rattle.int_program.proofs.laws.trees_have_fewer_splits_than_points.Goals as goal

pub returns-clause-accepted : goal.returns-clause-accepted
returns-clause-accepted c = accepted_fewer

pub returns-clause-cut : goal.returns-clause-cut
returns-clause-cut c = cut_fewer
