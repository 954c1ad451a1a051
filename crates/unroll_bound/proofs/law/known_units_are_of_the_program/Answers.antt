use Rattle.unroll_bound.proofs.ProgramUnitLaws.{known_are}
use Rattle.unroll_bound.proofs.law.known_units_are_of_the_program.Goals as goal

pub returns : goal.returns
returns c = known_are
