use Rattle.p4_parser.proofs.StatementTrees.{inner_else_tree}
use Rattle.p4_parser.proofs.grammar_examples.else_goes_to_the_inner_if.Goals as goal

pub returns : goal.returns
returns c = inner_else_tree
