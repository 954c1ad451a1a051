use Rattle.int_program.proofs.NumberLaws.{dual_gate, far_gate}
use Rattle.int_program.proofs.laws.sums_stop_where_a_number_is_too_wide.Goals as goal

pub returns-clause-dual : goal.returns-clause-dual
returns-clause-dual c = dual_gate

pub returns-clause-far : goal.returns-clause-far
returns-clause-far c = far_gate
