use Rattle.p4_parser.proofs.StatementTrees.{if_is_open, open_branch_in_brackets}
use Rattle.p4_parser.proofs.grammar_laws.law_of_open_ends.Goals as goal

pub returns : goal.returns
returns c = record { branch = open_branch_in_brackets; alone = if_is_open }
