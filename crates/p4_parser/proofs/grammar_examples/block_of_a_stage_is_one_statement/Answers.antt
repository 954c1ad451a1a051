use Rattle.p4_parser.proofs.StatementTrees.{stage_branch_tree}
use Rattle.p4_parser.proofs.grammar_examples.block_of_a_stage_is_one_statement.Goals as goal

pub returns : goal.returns
returns c = stage_branch_tree
