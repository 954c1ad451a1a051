use Rattle.p4_parser.proofs.StatementTrees.{no_depth_no_if, no_depth_no_else}
use Rattle.p4_parser.proofs.grammar_examples.no_condition_without_depth.Goals as goal

pub returns : goal.returns
returns c = record { alone = no_depth_no_if; with_else = no_depth_no_else }
