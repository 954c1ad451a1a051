use Rattle.p4_expr.proofs.ExampleTrees.{sum_tree, differences_tree, brackets_tree, shift_tree, slice_tree, cast_tree, prefixes_tree}
use Rattle.p4_expr.proofs.examples.examples_are_spelled.Goals as goal

pub returns : goal.returns
returns c = record { sum = sum_tree; differences = differences_tree; brackets = brackets_tree; shift = shift_tree; slice = slice_tree; cast = cast_tree; prefixes = prefixes_tree }
