use Rattle.p4_parser.proofs.Refused.{width_too_wide}
use Rattle.p4_parser.proofs.grammar_examples.no_width_is_too_wide.Goals as goal

pub returns : goal.returns
returns c = width_too_wide
