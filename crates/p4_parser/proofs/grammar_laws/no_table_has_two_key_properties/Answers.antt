use Rattle.p4_parser.proofs.TwoKeys.{no_two_keys}
use Rattle.p4_parser.proofs.grammar_laws.no_table_has_two_key_properties.Goals as goal

pub returns : goal.returns
returns c = no_two_keys
