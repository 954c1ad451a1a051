use Rattle.p4_parser.proofs.NestedConditions.{bracketed_spelled, bare_spelled, tree_needs, words_need}
use Rattle.p4_parser.proofs.grammar_examples.conditions_need_a_depth_of_their_number.Goals as goal

pub returns : goal.returns
returns c = record { bracketed = bracketed_spelled; bare = bare_spelled; tree = tree_needs; words = words_need }
