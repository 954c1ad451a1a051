use Rattle.std.proofs.Common.{refl}
use Rattle.p4_parser.proofs.WorkedTrees.{worked_declarations_spelled, worked_parser_spelled, worked_control_spelled, worked_end_spelled}
use Rattle.p4_parser.proofs.grammar_examples.worked_declarations_are_spelled.Goals as goal

pub returns : goal.returns
returns c = record { declarations = worked_declarations_spelled; of_a_parser = worked_parser_spelled; of_a_control = worked_control_spelled; open_in_the_control = refl; end = worked_end_spelled }
