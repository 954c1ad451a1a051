-- The trees of more examples: shifts and sums, equations, prefixes and slices, casts of sums, hashes and validity bits.
use Rattle.std.proofs.Common.{[], ◌∷◌, codes, refl, lit<}
use Rattle.elastic_ast.specs.OperatorSorts.{Equal, BitAnd, ShiftUp, Plus, Turn}
use Rattle.p4_expr.specs.Expressions.{SpellsLevel, SpellsPrefixed, SpellsPrimary, SpellsExpr}
use Rattle.p4_expr.specs.Examples.{tree_of_validity, tree_of_hash_of_name, tree_of_byte_of_sum, tree_of_turned_slice, tree_of_and_in_equation, tree_of_shift_of_sum, shift_of_sum, and_in_equation, turned_slice, byte_of_sum, hash_of_name, validity}
use Rattle.p4_expr.proofs.Building.{sign_first, sign_last, name_first, name_last, word_last, primary_name, one_name, from_none, lift, is_coded, bits_words, cast_words}

pub shift_of_sum_tree : SpellsExpr 0 tree_of_shift_of_sum shift_of_sum
shift_of_sum_tree =
    lift 7
    (SpellsLevel.binary ShiftUp _ _ _ (is_coded ShiftUp refl)
    (lift 3 (one_name 0 (codes "a") _ refl refl))
    (sign_last (codes "<<") 28 _ refl refl)
    (SpellsLevel.binary Plus _ _ _ (is_coded Plus refl)
    (lift 2 (one_name 0 (codes "b") _ refl refl))
    (sign_last (codes "+") 13 _ refl refl)
    (lift 1 (one_name 0 (codes "c") _ refl refl))
    refl)
    refl)

pub and_in_equation_tree : SpellsExpr 0 tree_of_and_in_equation and_in_equation
and_in_equation_tree =
    lift 2
    (SpellsLevel.binary Equal _ _ _ (is_coded Equal refl)
    (lift 8 (one_name 0 (codes "a") _ refl refl))
    (sign_last (codes "==") 22 _ refl refl)
    (lift 3
    (SpellsLevel.binary BitAnd _ _ _ (is_coded BitAnd refl)
    (lift 4 (one_name 0 (codes "b") _ refl refl))
    (sign_last (codes "&") 16 _ refl refl)
    (lift 3 (one_name 0 (codes "c") _ refl refl))
    refl))
    refl)

pub turned_slice_tree : SpellsExpr 1 tree_of_turned_slice turned_slice
turned_slice_tree =
    lift 10 (SpellsLevel.prefixed
    (SpellsPrefixed.unary Turn _ _ (is_coded Turn refl) (sign_last (codes "~") 19 _ refl refl)
    (SpellsPrefixed.primary
    (SpellsPrimary.slice _ _ (primary_name 1 (codes "x") _ refl refl)
    (bits_words 0 _ _ _ _ _ (lit< tt, lit< tt) refl refl refl refl refl refl refl refl)
    refl))
    refl))

pub byte_of_sum_tree : SpellsExpr 1 tree_of_byte_of_sum byte_of_sum
byte_of_sum_tree =
    lift 10 (SpellsLevel.prefixed
    (SpellsPrefixed.cast (_ ∷ _ ∷ _ ∷ _ ∷ _ ∷ _ ∷ []) _
    (cast_words 0 _ _ _ _ _ _ (lit< tt) refl refl refl refl refl refl refl refl refl refl refl)
    (SpellsPrefixed.primary
    (SpellsPrimary.bracketed _ _ _ (sign_last (codes "(") 2 _ refl refl)
    (lift 8
    (SpellsLevel.binary Plus _ _ _ (is_coded Plus refl)
    (lift 2 (one_name 0 (codes "a") _ refl refl))
    (sign_last (codes "+") 13 _ refl refl)
    (lift 1 (one_name 0 (codes "b") _ refl refl))
    refl))
    (sign_last (codes ")") 3 _ refl refl)
    refl))
    refl))

pub hash_of_name_tree : SpellsExpr 1 tree_of_hash_of_name hash_of_name
hash_of_name_tree =
    from_none 1 _ hash_of_name (SpellsLevel.prefixed (SpellsPrefixed.primary
    (SpellsPrimary.hash _ _ _ _ _ _
    (name_last (codes "hash") _ refl refl)
    (sign_last (codes "(") 2 _ refl refl)
    (name_first (codes "i") _ _ refl refl (sign_last (codes ",") 10 _ refl refl))
    (lift 10 (one_name 0 (codes "x") _ refl refl))
    record { front = _ ∷ []; back = _ ∷ []; joined = refl; first = sign_last (codes ",") 10 _ refl refl; second = (lit< tt, word_last _ refl) }
    (sign_last (codes ")") 3 _ refl refl)
    refl)))

pub validity_tree : SpellsExpr 1 tree_of_validity validity
validity_tree =
    from_none 1 _ validity (SpellsLevel.prefixed (SpellsPrefixed.primary
    (SpellsPrimary.is_valid
    record {
      front = _ ∷ _ ∷ _ ∷ [];
      back = _ ∷ _ ∷ _ ∷ _ ∷ [];
      joined = refl;
      first = name_first (codes "hdr") _ _ refl refl (sign_first (codes ".") 11 _ _ refl refl (name_last (codes "h") _ refl refl));
      second = sign_first (codes ".") 11 _ _ refl refl (name_first (codes "isValid") _ _ refl refl (sign_first (codes "(") 2 _ _ refl refl record { front = []; back = _ ∷ []; joined = refl; first = refl; second = sign_last (codes ")") 3 _ refl refl }));
    })))
