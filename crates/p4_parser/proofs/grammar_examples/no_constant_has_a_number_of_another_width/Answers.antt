use Rattle.p4_parser.proofs.Refused.{other_width}
use Rattle.p4_parser.proofs.grammar_examples.no_constant_has_a_number_of_another_width.Goals as goal

pub returns : goal.returns
returns c = other_width
