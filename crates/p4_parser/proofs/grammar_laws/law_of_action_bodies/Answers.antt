use Rattle.p4_parser.proofs.ActionBodies.{actions_plain}
use Rattle.p4_parser.proofs.grammar_laws.law_of_action_bodies.Goals as goal

pub returns : goal.returns
returns c = actions_plain
