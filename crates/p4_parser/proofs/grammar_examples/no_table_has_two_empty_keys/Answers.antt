use Rattle.p4_parser.proofs.TwoKeys.{two_keys_refused}
use Rattle.p4_parser.proofs.grammar_examples.no_table_has_two_empty_keys.Goals as goal

pub returns : goal.returns
returns c = two_keys_refused
