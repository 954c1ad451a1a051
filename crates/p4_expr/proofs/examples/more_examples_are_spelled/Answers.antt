use Rattle.p4_expr.proofs.MoreTrees.{shift_of_sum_tree, and_in_equation_tree, turned_slice_tree, byte_of_sum_tree, hash_of_name_tree, validity_tree}
use Rattle.p4_expr.proofs.examples.more_examples_are_spelled.Goals as goal

pub returns : goal.returns
returns c = record { shift_by_sum = shift_of_sum_tree; equation = and_in_equation_tree; prefix_of_slice = turned_slice_tree; cast_of_sum = byte_of_sum_tree; hash = hash_of_name_tree; header = validity_tree }
