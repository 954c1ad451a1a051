use Rattle.p4_parser.proofs.parameters.fn.Owner.parameters.around.Goals as goal

pub returns-in-Parser : goal.returns-in-Parser
returns-in-Parser c = rw c.in-Parser.is c.of_parser.ensures

pub returns-in-Control : goal.returns-in-Control
returns-in-Control c = rw c.in-Control.is c.of_control.ensures
