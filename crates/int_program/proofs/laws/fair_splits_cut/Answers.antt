use Rattle.int_program.proofs.FairLaws.{fair_cut, fair_before}
use Rattle.int_program.proofs.laws.fair_splits_cut.Goals as goal

pub returns-clause-cut : goal.returns-clause-cut
returns-clause-cut c = fair_cut

pub returns-clause-owed : goal.returns-clause-owed
returns-clause-owed c = fair_before
