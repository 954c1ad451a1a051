-- The tree of a register whose two closing signs touch.
use Rattle.std.proofs.Common.{[], ◌∷◌, codes, refl, None, lit<}
use Rattle.elastic_ast.specs.declared.statements.Amount.TheVariants as amount
use Rattle.elastic_ast.specs.Tree.{PlainDecl}
use Rattle.p4_expr.proofs.Building.{sign_first, sign_last, reserved_first, name_first, word_first, word_last}
use Rattle.p4_parser.specs.Declarations.{SpellsDeclaration, SpellsProgram}
use Rattle.p4_parser.specs.Examples.{touching_closings}

register_tree : SpellsDeclaration 1 (PlainDecl.Register (codes "r") 32 (amount.Num 4) None) touching_closings
register_tree =
    name_first (codes "Register") _ _ refl refl (sign_first (codes "<") 6 _ _ refl refl
    record {
      front = _ ∷ _ ∷ _ ∷ _ ∷ [];
      back = _ ∷ _ ∷ _ ∷ _ ∷ _ ∷ _ ∷ [];
      joined = refl;
      first = (lit< tt, reserved_first (codes "bit") 1 _ _ refl refl (sign_first (codes "<") 6 _ _ refl refl (word_first _ _ refl (sign_last (codes ">") 7 _ refl refl))));
      second = sign_first (codes ">") 7 _ _ refl refl
          record {
            front = _ ∷ _ ∷ _ ∷ [];
            back = _ ∷ _ ∷ [];
            joined = refl;
            first = sign_first (codes "(") 2 _ _ refl refl record { front = _ ∷ []; back = _ ∷ []; joined = refl; first = (lit< tt, word_last _ refl); second = sign_last (codes ")") 3 _ refl refl };
            second = record { front = []; back = _ ∷ _ ∷ []; joined = refl; first = refl; second = name_first (codes "r") _ _ refl refl (sign_last (codes ";") 8 _ refl refl) };
          };
    })

pub register_program : SpellsProgram 1 (PlainDecl.Register (codes "r") 32 (amount.Num 4) None ∷ []) touching_closings
register_program = record { front = touching_closings; back = []; joined = refl; first = register_tree; second = refl }
