use Rattle.elastic_laws.proofs.Units.UnitLists.{lists_agree, program_lists_agree}
use Rattle.elastic_laws.proofs.unit_laws.lists_agree.Goals as goal

pub returns : goal.returns
returns c = record { pieces = lists_agree; program = program_lists_agree }
