-- The trees of the examples.
use Rattle.std.proofs.Common.{[], ◌∷◌, codes, refl, lit<}
use Rattle.elastic_ast.specs.OperatorSorts.{ShiftDown, Plus, Minus, Times, Turn, Negate}
use Rattle.elastic_ast.specs.Tree.{PlainExpr}
use Rattle.p4_expr.specs.Expressions.{SpellsLevel, SpellsPrefixed, SpellsPrimary, SpellsExpr}
use Rattle.p4_expr.specs.Examples.{tree_of_two_prefixes, tree_of_byte_of_name, tree_of_four_bits, tree_of_shift, tree_of_two_differences, tree_of_product_in_sum, product_in_sum, two_differences, name_in_brackets, shift, four_bits, byte_of_name, two_prefixes}
use Rattle.p4_expr.proofs.Building.{sign_last, touching, primary_name, prefixed_name, one_name, one_number, from_none, from_two, from_three, is_coded, bits_words, cast_words}

pub sum_tree : SpellsExpr 0 tree_of_product_in_sum product_in_sum
sum_tree =
    from_two 0 _ product_in_sum
    (SpellsLevel.binary Plus _ _ _ (is_coded Plus refl)
    (SpellsLevel.stronger (SpellsLevel.stronger (one_name 0 (codes "a") _ refl refl)))
    (sign_last (codes "+") 13 _ refl refl)
    (SpellsLevel.binary Times _ _ _ (is_coded Times refl)
    (SpellsLevel.stronger (one_name 0 (codes "b") _ refl refl))
    (sign_last (codes "*") 15 _ refl refl)
    (one_name 0 (codes "c") _ refl refl)
    refl)
    refl)

pub differences_tree : SpellsExpr 0 tree_of_two_differences two_differences
differences_tree =
    from_two 0 _ two_differences
    (SpellsLevel.binary Minus _ _ _ (is_coded Minus refl)
    (SpellsLevel.binary Minus _ _ _ (is_coded Minus refl)
    (SpellsLevel.stronger (SpellsLevel.stronger (one_name 0 (codes "a") _ refl refl)))
    (sign_last (codes "-") 14 _ refl refl)
    (SpellsLevel.stronger (one_name 0 (codes "b") _ refl refl))
    refl)
    (sign_last (codes "-") 14 _ refl refl)
    (SpellsLevel.stronger (one_name 0 (codes "c") _ refl refl))
    refl)

pub brackets_tree : SpellsExpr 1 (PlainExpr.Named (codes "a")) name_in_brackets
brackets_tree =
    from_none 1 _ name_in_brackets (SpellsLevel.prefixed (SpellsPrefixed.primary
    (SpellsPrimary.bracketed _ _ _ (sign_last (codes "(") 2 _ refl refl) (from_none 0 _ _ (one_name 0 (codes "a") _ refl refl)) (sign_last (codes ")") 3 _ refl refl) refl)))

pub shift_tree : SpellsExpr 0 tree_of_shift shift
shift_tree =
    from_three 0 _ shift
    (SpellsLevel.binary ShiftDown _ _ _ (is_coded ShiftDown refl)
    (SpellsLevel.stronger (SpellsLevel.stronger (SpellsLevel.stronger (one_name 0 (codes "x") _ refl refl))))
    (touching _ _ refl refl refl refl refl)
    (SpellsLevel.stronger (SpellsLevel.stronger (one_number 0 2 _ (lit< tt) refl)))
    refl)

pub slice_tree : SpellsExpr 1 tree_of_four_bits four_bits
slice_tree =
    from_none 1 _ four_bits (SpellsLevel.prefixed (SpellsPrefixed.primary
    (SpellsPrimary.slice _ _ (primary_name 1 (codes "h") _ refl refl)
    (bits_words 0 _ _ _ _ _ (lit< tt, lit< tt) refl refl refl refl refl refl refl refl)
    refl)))

pub cast_tree : SpellsExpr 1 tree_of_byte_of_name byte_of_name
cast_tree =
    from_none 1 _ byte_of_name (SpellsLevel.prefixed
    (SpellsPrefixed.cast (_ ∷ _ ∷ _ ∷ _ ∷ _ ∷ _ ∷ []) _
    (cast_words 0 _ _ _ _ _ _ (lit< tt) refl refl refl refl refl refl refl refl refl refl refl)
    (prefixed_name 1 (codes "x") _ refl refl)
    refl))

pub prefixes_tree : SpellsExpr 0 tree_of_two_prefixes two_prefixes
prefixes_tree =
    from_none 0 _ two_prefixes (SpellsLevel.prefixed
    (SpellsPrefixed.unary Turn _ _ (is_coded Turn refl) (sign_last (codes "~") 19 _ refl refl)
    (SpellsPrefixed.unary Negate _ _ (is_coded Negate refl) (sign_last (codes "!") 20 _ refl refl) (prefixed_name 0 (codes "x") _ refl refl) refl)
    refl))
