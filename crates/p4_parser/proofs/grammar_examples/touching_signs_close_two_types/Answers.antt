use Rattle.p4_parser.proofs.DeclarationTrees.{register_program}
use Rattle.p4_parser.proofs.grammar_examples.touching_signs_close_two_types.Goals as goal

pub returns : goal.returns
returns c = register_program
