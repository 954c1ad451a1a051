use Rattle.int_program.proofs.FirstLaws.{node_decides}
use Rattle.int_program.proofs.FoundLaws.{fair_none, first_found}
use Rattle.int_program.proofs.laws.unfair_nodes_are_found.Goals as goal

pub returns-clause-tested : goal.returns-clause-tested
returns-clause-tested c = node_decides

pub returns-clause-none : goal.returns-clause-none
returns-clause-none c = fair_none

pub returns-clause-some : goal.returns-clause-some
returns-clause-some c = first_found
