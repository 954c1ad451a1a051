-- How the worked declarations are spelled.
use Rattle.std.proofs.Common.{[], ◌∷◌, true, false, None, Some, codes, refl, inl, inr, lit<}
use Rattle.elastic_ast.specs.OperatorSorts.{Or, And, Equal, Differ, Less, AtMost, Greater, AtLeast, BitOr, BitXor, BitAnd, ShiftDown, Join, Negate}
use Rattle.elastic_ast.specs.declared.statements.Lval.TheVariants as lval
use Rattle.elastic_ast.specs.Tree.{PlainExpr, PlainKeyset}
use Rattle.p4_expr.specs.Expressions.{SpellsLevel, SpellsPrefixed, SpellsPrimary}
use Rattle.p4_expr.proofs.Building.{sign_first, sign_last, reserved_first, reserved_last, name_first, name_last, word_first, word_last, touching, lift}
use Rattle.p4_tables.specs.Tables.{Property}
use Rattle.p4_statements.specs.Statements.{SpellsStmt, SpellsStmts, SpellsBranch}
use Rattle.p4_parser.specs.Declarations.{SpellsProgram}
use Rattle.p4_parser.specs.WorkedTexts.{worked_declarations, worked_declarations_tree, worked_parser, worked_parser_tree, worked_control, worked_control_tree, worked_end, worked_end_tree}
use Rattle.p4_parser.proofs.Cutting.{cut, apart_pairs}

pub worked_declarations_spelled : SpellsProgram 2 worked_declarations_tree worked_declarations
worked_declarations_spelled =
    (cut (_ ∷ []) _ (lit< tt, word_last _ refl) (cut (_ ∷ []) _ (lit< tt, word_last _ refl) (cut (_ ∷ _ ∷ _ ∷ _ ∷ []) _
    (reserved_first (codes "symbolic") 18 _ _ refl refl (reserved_first (codes "int") 12 _ _ refl refl (name_first (codes "n")
    _ _ refl refl (sign_last (codes ";") 8 _ refl refl)))) (cut (_ ∷ _ ∷ _ ∷ _ ∷ _ ∷ _ ∷ _ ∷ _ ∷ _ ∷ _ ∷ _ ∷ _ ∷ _ ∷ _ ∷ _ ∷ _
    ∷ _ ∷ _ ∷ _ ∷ _ ∷ _ ∷ _ ∷ _ ∷ _ ∷ _ ∷ _ ∷ _ ∷ _ ∷ _ ∷ _ ∷ _ ∷ []) _ (name_first (codes "assume") _ _ refl refl (cut (_ ∷ _
    ∷ _ ∷ _ ∷ _ ∷ _ ∷ _ ∷ _ ∷ _ ∷ _ ∷ _ ∷ _ ∷ _ ∷ _ ∷ _ ∷ _ ∷ _ ∷ _ ∷ _ ∷ _ ∷ _ ∷ _ ∷ _ ∷ _ ∷ _ ∷ _ ∷ _ ∷ _ ∷ _ ∷ []) _
    (sign_first (codes "(") 2 _ _ refl refl (cut (_ ∷ _ ∷ _ ∷ _ ∷ _ ∷ _ ∷ _ ∷ _ ∷ _ ∷ _ ∷ _ ∷ _ ∷ _ ∷ _ ∷ _ ∷ _ ∷ _ ∷ _ ∷ _ ∷ _
    ∷ _ ∷ _ ∷ _ ∷ _ ∷ _ ∷ _ ∷ _ ∷ []) _ (cut (_ ∷ _ ∷ _ ∷ []) _ (cut (_ ∷ []) _ (cut (_ ∷ []) _ (
      refl,
      (inl (
        refl,
        (name_last
            (codes "n") _ refl refl),
      )),
    ) refl) (sign_first (codes ">=") 25 _ _ refl refl (cut (_ ∷ []) _ (
      refl,
      (
        lit< tt,
        (word_last _
            refl),
      ),
    ) refl))) (cut (_ ∷ _ ∷ _ ∷ _ ∷ _ ∷ _ ∷ _ ∷ _ ∷ []) _ (sign_first (codes "&&") 26 _ _ refl refl (cut (_ ∷ _ ∷ _ ∷ _ ∷
    _ ∷ []) _ (cut (_ ∷ _ ∷ _ ∷ []) _ (
      refl,
      (inr (
        lit< tt,
        (word_first _ _ refl (sign_first (codes "*") 15 _ _ refl refl
            (name_last (codes "n") _ refl refl))),
      )),
    ) (cut (_ ∷ _ ∷ []) _ (sign_first (codes "+") 13 _ _ refl refl (
      lit< tt,
      (word_last
          _ refl),
    )) refl)) (sign_first (codes "<") 6 _ _ refl refl (cut (_ ∷ []) _ (refl, (lit< tt, (word_last _ refl))) refl))))
    (cut (_ ∷ _ ∷ _ ∷ _ ∷ []) _ (sign_first (codes "&&") 26 _ _ refl refl (cut (_ ∷ []) _ (cut (_ ∷ []) _ (
      refl,
      (inl (
        refl,
        (name_last (codes "n") _ refl refl),
      )),
    ) refl) (sign_first (codes "<=") 24 _ _ refl refl (cut (_ ∷ []) _ (
      refl,
      (
        lit< tt,
        (word_last _ refl),
      ),
    ) refl)))) (cut (_ ∷ _ ∷ _ ∷ _ ∷ _ ∷ _ ∷ _ ∷ _ ∷ []) _ (sign_first (codes "&&") 26 _ _ refl refl (cut (_
    ∷ _ ∷ _ ∷ []) _ (cut (_ ∷ []) _ (refl, (lit< tt, (word_last _ refl))) (cut (_ ∷ _ ∷ []) _ (sign_first (codes "-") 14 _ _
    refl refl (inl (refl, (name_last (codes "n") _ refl refl)))) refl)) (sign_first (codes "==") 22 _ _ refl refl (cut (_ ∷ [])
    _ (refl, (lit< tt, (word_last _ refl))) (cut (_ ∷ _ ∷ []) _ (sign_first (codes "-") 14 _ _ refl refl (inl (
      refl,
      (name_last
          (codes "n") _ refl refl),
    ))) refl))))) (cut (_ ∷ _ ∷ _ ∷ _ ∷ []) _ (sign_first (codes "&&") 26 _ _ refl refl (cut (_ ∷ []) _
    (cut (_ ∷ []) _ (refl, (lit< tt, (word_last _ refl))) refl) (sign_first (codes ">") 7 _ _ refl refl (cut (_ ∷ []) _ (
      refl,
      (inl (refl, (name_last (codes "n") _ refl refl))),
    ) refl)))) refl))))) (sign_last (codes ")") 3 _ refl refl))) (sign_last
    (codes ";") 8 _ refl refl))) (cut (_ ∷ _ ∷ _ ∷ _ ∷ _ ∷ _ ∷ _ ∷ _ ∷ _ ∷ _ ∷ _ ∷ _ ∷ _ ∷ _ ∷ _ ∷ _ ∷ _ ∷ _ ∷ _ ∷ _ ∷ _ ∷ _ ∷
    _ ∷ []) _ (name_first (codes "maximize") _ _ refl refl (cut (_ ∷ _ ∷ _ ∷ _ ∷ _ ∷ _ ∷ _ ∷ _ ∷ _ ∷ _ ∷ _ ∷ _ ∷ _ ∷ _ ∷ _ ∷ _
    ∷ _ ∷ _ ∷ _ ∷ _ ∷ _ ∷ []) _ (sign_first (codes "(") 2 _ _ refl refl (cut (_ ∷ _ ∷ _ ∷ _ ∷ _ ∷ _ ∷ _ ∷ _ ∷ _ ∷ _ ∷ _ ∷ _ ∷ _
    ∷ _ ∷ _ ∷ _ ∷ _ ∷ _ ∷ _ ∷ []) _ (cut (_ ∷ []) _ (refl, (inl (refl, (name_last (codes "n") _ refl refl)))) (cut (_ ∷ _ ∷ _ ∷
    _ ∷ _ ∷ _ ∷ _ ∷ _ ∷ _ ∷ _ ∷ _ ∷ _ ∷ _ ∷ _ ∷ []) _ (sign_first (codes "-") 14 _ _ refl refl (reserved_first (codes "table")
    19 _ _ refl refl (cut (_ ∷ _ ∷ _ ∷ []) _ (sign_first (codes "(") 2 _ _ refl refl (cut (_ ∷ []) _ (name_last (codes "n") _
    refl refl) (sign_last (codes ")") 3 _ refl refl))) (sign_first (codes "{") 0 _ _ refl refl (cut (_ ∷ _ ∷ _ ∷ _ ∷ _ ∷ _ ∷ _
    ∷ []) _ (cut (_ ∷ _ ∷ _ ∷ []) _ (
      (lit< tt, lit< tt),
      (word_first _ _ refl (sign_first (codes ":") 9 _ _ refl refl
          (word_last _ refl))),
    ) (cut (_ ∷ _ ∷ _ ∷ _ ∷ []) _ (sign_first (codes ",") 10 _ _ refl refl (
      (lit< tt, lit< tt),
      (word_first
          _ _ refl (sign_first (codes ":") 9 _ _ refl refl (word_last _ refl))),
    )) refl)) (sign_last (codes "}") 1 _ refl refl))))))
    (cut (_ ∷ _ ∷ _ ∷ _ ∷ []) _ (sign_first (codes "+") 13 _ _ refl refl (inr (
      lit< tt,
      (word_first _ _ refl (sign_first (codes
          "*") 15 _ _ refl refl (name_last (codes "n") _ refl refl))),
    ))) refl))) (sign_last (codes ")") 3 _ refl refl))) (sign_last
    (codes ";") 8 _ refl refl))) (cut (_ ∷ _ ∷ _ ∷ _ ∷ _ ∷ _ ∷ _ ∷ _ ∷ _ ∷ []) _ (reserved_first (codes "const") 2 _ _ refl
    refl (cut (_ ∷ _ ∷ _ ∷ _ ∷ []) _ (
      lit< tt,
      (reserved_first (codes "bit") 1 _ _ refl refl (sign_first (codes "<") 6 _ _ refl
          refl (word_first _ _ refl (sign_last (codes ">") 7 _ refl refl)))),
    ) (name_first (codes "c") _ _ refl refl (sign_first
    (codes "=") 12 _ _ refl refl (cut (_ ∷ []) _ (inr ((lit< tt, lit< tt), word_last _ refl)) (sign_last (codes ";") 8 _ refl
    refl)))))) (cut (_ ∷ _ ∷ _ ∷ _ ∷ _ ∷ _ ∷ _ ∷ _ ∷ _ ∷ []) _ (reserved_first (codes "const") 2 _ _ refl refl (cut (_ ∷ _ ∷ _
    ∷ _ ∷ []) _ (
      lit< tt,
      (reserved_first (codes "bit") 1 _ _ refl refl (sign_first (codes "<") 6 _ _ refl refl (word_first _ _
          refl (sign_last (codes ">") 7 _ refl refl)))),
    ) (name_first (codes "d") _ _ refl refl (sign_first (codes "=") 12 _ _ refl
    refl (cut (_ ∷ []) _ (inl ((tt, lit< tt), word_last _ refl)) (sign_last (codes ";") 8 _ refl refl)))))) (cut (_ ∷ _ ∷ _ ∷ _
    ∷ _ ∷ _ ∷ _ ∷ _ ∷ _ ∷ _ ∷ []) _ (reserved_first (codes "header") 8 _ _ refl refl (name_first (codes "h_t") _ _ refl refl
    (sign_first (codes "{") 0 _ _ refl refl (cut (_ ∷ _ ∷ _ ∷ _ ∷ _ ∷ _ ∷ []) _ (cut (_ ∷ _ ∷ _ ∷ _ ∷ _ ∷ _ ∷ []) _ (
      refl,
      (cut
          (_ ∷ _ ∷ _ ∷ _ ∷ []) _ (
            lit< tt,
            (reserved_first (codes "bit") 1 _ _ refl refl (sign_first (codes "<") 6 _ _ refl refl
                (word_first _ _ refl (sign_last (codes ">") 7 _ refl refl)))),
          ) (name_first (codes "v") _ _ refl refl (sign_last (codes ";")
          8 _ refl refl))),
    ) refl) (sign_last (codes "}") 1 _ refl refl))))) (cut (_ ∷ _ ∷ _ ∷ _ ∷ _ ∷ _ ∷ _ ∷ []) _ (reserved_first
    (codes "struct") 17 _ _ refl refl (name_first (codes "headers_t") _ _ refl refl (sign_first (codes "{") 0 _ _ refl refl
    (cut (_ ∷ _ ∷ _ ∷ []) _ (cut (_ ∷ _ ∷ _ ∷ []) _ (name_first (codes "h_t") _ _ refl refl (name_first (codes "h") _ _ refl
    refl (sign_last (codes ";") 8 _ refl refl))) refl) (sign_last (codes "}") 1 _ refl refl))))) (cut (_ ∷ _ ∷ _ ∷ _ ∷ _ ∷ _ ∷
    _ ∷ _ ∷ _ ∷ _ ∷ _ ∷ _ ∷ _ ∷ _ ∷ _ ∷ _ ∷ _ ∷ _ ∷ _ ∷ []) _ (reserved_first (codes "struct") 17 _ _ refl refl (name_first
    (codes "meta_t") _ _ refl refl (sign_first (codes "{") 0 _ _ refl refl (cut (_ ∷ _ ∷ _ ∷ _ ∷ _ ∷ _ ∷ _ ∷ _ ∷ _ ∷ _ ∷ _ ∷ _
    ∷ _ ∷ _ ∷ _ ∷ []) _ (cut (_ ∷ _ ∷ _ ∷ _ ∷ _ ∷ _ ∷ _ ∷ _ ∷ _ ∷ []) _ (cut (_ ∷ _ ∷ _ ∷ _ ∷ []) _ (
      lit< tt,
      (reserved_first
          (codes "bit") 1 _ _ refl refl (sign_first (codes "<") 6 _ _ refl refl (word_first _ _ refl (sign_last (codes ">") 7 _ refl
          refl)))),
    ) (cut (_ ∷ _ ∷ _ ∷ []) _ (sign_first (codes "[") 4 _ _ refl refl (cut (_ ∷ []) _ (name_last (codes "n") _ refl
    refl) (sign_last (codes "]") 5 _ refl refl))) (name_first (codes "x") _ _ refl refl (sign_last (codes ";") 8 _ refl
    refl)))) (cut (_ ∷ _ ∷ _ ∷ _ ∷ _ ∷ _ ∷ []) _ (cut (_ ∷ _ ∷ _ ∷ _ ∷ []) _ (
      lit< tt,
      (reserved_first (codes "bit") 1 _ _ refl
          refl (sign_first (codes "<") 6 _ _ refl refl (word_first _ _ refl (sign_last (codes ">") 7 _ refl refl)))),
    ) (cut ([]) _
    refl (name_first (codes "y") _ _ refl refl (sign_last (codes ";") 8 _ refl refl)))) refl)) (sign_last (codes "}") 1 _ refl
    refl))))) (cut (_ ∷ _ ∷ _ ∷ _ ∷ _ ∷ _ ∷ _ ∷ _ ∷ _ ∷ _ ∷ _ ∷ _ ∷ _ ∷ _ ∷ _ ∷ []) _ (name_first (codes "Register") _ _ refl
    refl (sign_first (codes "<") 6 _ _ refl refl (cut (_ ∷ _ ∷ _ ∷ _ ∷ []) _ (
      lit< tt,
      (reserved_first (codes "bit") 1 _ _ refl
          refl (sign_first (codes "<") 6 _ _ refl refl (word_first _ _ refl (sign_last (codes ">") 7 _ refl refl)))),
    ) (sign_first
    (codes ">") 7 _ _ refl refl (cut (_ ∷ _ ∷ _ ∷ []) _ (sign_first (codes "(") 2 _ _ refl refl (cut (_ ∷ []) _ (name_last
    (codes "n") _ refl refl) (sign_last (codes ")") 3 _ refl refl))) (cut (_ ∷ _ ∷ _ ∷ []) _ (sign_first (codes "[") 4 _ _ refl
    refl (cut (_ ∷ []) _ (name_last (codes "n") _ refl refl) (sign_last (codes "]") 5 _ refl refl))) (name_first (codes "r") _
    _ refl refl (sign_last (codes ";") 8 _ refl refl)))))))) refl)))))))))))

pub worked_parser_spelled : SpellsProgram 3 worked_parser_tree worked_parser
worked_parser_spelled =
    (cut (_ ∷ _ ∷ _ ∷ _ ∷ _ ∷ _ ∷ _ ∷ _ ∷ _ ∷ _ ∷ _ ∷ _ ∷ _ ∷ _ ∷ _ ∷ _ ∷ _ ∷ _ ∷ _ ∷ _ ∷ _ ∷ _ ∷ _ ∷ _ ∷ _ ∷ _ ∷ _ ∷ _ ∷ _ ∷ _
    ∷ _ ∷ _ ∷ _ ∷ _ ∷ _ ∷ _ ∷ _ ∷ _ ∷ _ ∷ _ ∷ _ ∷ _ ∷ _ ∷ _ ∷ _ ∷ _ ∷ _ ∷ _ ∷ _ ∷ _ ∷ _ ∷ _ ∷ _ ∷ _ ∷ _ ∷ _ ∷ _ ∷ _ ∷ _ ∷ _ ∷ _
    ∷ _ ∷ _ ∷ _ ∷ _ ∷ []) _ (reserved_first (codes "parser") 14 _ _ refl refl (name_first (codes "P") _ _ refl refl (cut (_ ∷ _
    ∷ _ ∷ _ ∷ _ ∷ _ ∷ _ ∷ _ ∷ _ ∷ _ ∷ _ ∷ _ ∷ _ ∷ _ ∷ _ ∷ _ ∷ []) _ (sign_first (codes "(") 2 _ _ refl refl (cut (_ ∷ _ ∷ _ ∷ _
    ∷ _ ∷ _ ∷ _ ∷ _ ∷ _ ∷ _ ∷ _ ∷ _ ∷ _ ∷ _ ∷ []) _ (name_first (codes "packet_in") _ _ refl refl (name_first (codes "pkt") _ _
    refl refl (sign_first (codes ",") 10 _ _ refl refl (reserved_first (codes "out") 13 _ _ refl refl (name_first (codes
    "headers_t") _ _ refl refl (name_first (codes "hdr") _ _ refl refl (sign_first (codes ",") 10 _ _ refl refl (reserved_first
    (codes "inout") 11 _ _ refl refl (name_first (codes "meta_t") _ _ refl refl (name_first (codes "meta") _ _ refl refl
    (sign_first (codes ",") 10 _ _ refl refl (reserved_first (codes "inout") 11 _ _ refl refl (name_first (codes "std_t") _ _
    refl refl (name_last (codes "std") _ refl refl)))))))))))))) (sign_last (codes ")") 3 _ refl refl))) (sign_first (codes
    "{") 0 _ _ refl refl (cut (_ ∷ _ ∷ _ ∷ _ ∷ _ ∷ _ ∷ _ ∷ _ ∷ _ ∷ _ ∷ _ ∷ _ ∷ _ ∷ _ ∷ _ ∷ _ ∷ _ ∷ _ ∷ _ ∷ _ ∷ _ ∷ _ ∷ _ ∷ _ ∷
    _ ∷ _ ∷ _ ∷ _ ∷ _ ∷ _ ∷ _ ∷ _ ∷ _ ∷ _ ∷ _ ∷ _ ∷ _ ∷ _ ∷ _ ∷ _ ∷ _ ∷ _ ∷ _ ∷ _ ∷ _ ∷ []) _ (cut (_ ∷ _ ∷ _ ∷ _ ∷ _ ∷ _ ∷ _ ∷
    _ ∷ _ ∷ _ ∷ _ ∷ _ ∷ _ ∷ _ ∷ _ ∷ _ ∷ _ ∷ _ ∷ _ ∷ _ ∷ _ ∷ _ ∷ _ ∷ _ ∷ _ ∷ _ ∷ _ ∷ _ ∷ _ ∷ _ ∷ _ ∷ _ ∷ _ ∷ _ ∷ _ ∷ _ ∷ _ ∷ _ ∷
    []) _ (reserved_first (codes "state") 16 _ _ refl refl (name_first (codes "start") _ _ refl refl (sign_first (codes "{") 0
    _ _ refl refl (cut (_ ∷ _ ∷ _ ∷ _ ∷ _ ∷ _ ∷ _ ∷ _ ∷ _ ∷ _ ∷ _ ∷ _ ∷ _ ∷ _ ∷ _ ∷ _ ∷ _ ∷ _ ∷ _ ∷ _ ∷ _ ∷ _ ∷ _ ∷ _ ∷ _ ∷ _ ∷
    _ ∷ _ ∷ _ ∷ _ ∷ _ ∷ _ ∷ _ ∷ _ ∷ []) _ (cut (_ ∷ _ ∷ _ ∷ _ ∷ _ ∷ _ ∷ _ ∷ _ ∷ _ ∷ []) _ (cut (_ ∷ _ ∷ _ ∷ _ ∷ _ ∷ _ ∷ _ ∷ _ ∷
    _ ∷ []) _ (name_first (codes "pkt") _ _ refl refl (sign_first (codes ".") 11 _ _ refl refl (name_first (codes "extract") _
    _ refl refl (cut (_ ∷ _ ∷ _ ∷ _ ∷ _ ∷ []) _ (sign_first (codes "(") 2 _ _ refl refl (cut (_ ∷ _ ∷ _ ∷ []) _ (name_first
    (codes "hdr") _ _ refl refl (sign_first (codes ".") 11 _ _ refl refl (name_last (codes "h") _ refl refl))) (sign_last
    (codes ")") 3 _ refl refl))) (sign_last (codes ";") 8 _ refl refl))))) refl) (reserved_first (codes "transition") 20 _ _
    refl refl (reserved_first (codes "select") 15 _ _ refl refl (cut (_ ∷ _ ∷ _ ∷ _ ∷ _ ∷ _ ∷ _ ∷ []) _ (sign_first (codes "(")
    2 _ _ refl refl (cut (_ ∷ _ ∷ _ ∷ _ ∷ _ ∷ []) _ (
    (lift 10 (SpellsLevel.prefixed (SpellsPrefixed.primary
    (SpellsPrimary.place (cut (_ ∷ _ ∷ _ ∷ []) _ (name_first (codes "hdr") _ _ refl refl (sign_first (codes ".") 11 _ _ refl
    refl (name_last (codes "h") _ refl refl))) (sign_first (codes ".") 11 _ _ refl refl (name_last (codes "v") _ refl
    refl)))))))
    ) (sign_last (codes ")") 3 _ refl refl))) (sign_first (codes "{") 0 _ _ refl refl (cut (_ ∷ _ ∷ _ ∷ _ ∷
    _ ∷ _ ∷ _ ∷ _ ∷ _ ∷ _ ∷ _ ∷ _ ∷ _ ∷ _ ∷ []) _ (cut (_ ∷ _ ∷ _ ∷ _ ∷ _ ∷ _ ∷ []) _ (cut (_ ∷ _ ∷ _ ∷ []) _ (inl (cut (_ ∷
    []) _ ((tt, lit< tt), word_last _ refl) (sign_first (codes "&&&") 29 _ _ refl refl ((tt, lit< tt), word_last _ refl))))
    (sign_first (codes ":") 9 _ _ refl refl (name_first (codes "next") _ _ refl refl (sign_last (codes ";") 8 _ refl refl))))
    (cut (_ ∷ _ ∷ _ ∷ _ ∷ []) _ (cut (_ ∷ []) _ (inl (reserved_last (codes "_") 22 _ refl refl)) (sign_first (codes ":") 9 _ _
    refl refl (name_first (codes "next") _ _ refl refl (sign_last (codes ";") 8 _ refl refl)))) (cut (_ ∷ _ ∷ _ ∷ _ ∷ []) _
    (cut (_ ∷ []) _ (inr (refl, (reserved_last (codes "default") 4 _ refl refl))) (sign_first (codes ":") 9 _ _ refl refl
    (name_first (codes "reject") _ _ refl refl (sign_last (codes ";") 8 _ refl refl)))) refl))) (sign_last (codes "}") 1 _ refl
    refl))))))) (sign_last (codes "}") 1 _ refl refl))))) (cut (_ ∷ _ ∷ _ ∷ _ ∷ _ ∷ _ ∷ _ ∷ []) _ (reserved_first (codes
    "state") 16 _ _ refl refl (name_first (codes "next") _ _ refl refl (sign_first (codes "{") 0 _ _ refl refl (cut (_ ∷ _ ∷ _
    ∷ []) _ (cut ([]) _ refl (reserved_first (codes "transition") 20 _ _ refl refl (name_first (codes "accept") _ _ refl refl
    (sign_last (codes ";") 8 _ refl refl)))) (sign_last (codes "}") 1 _ refl refl))))) refl)) (sign_last (codes "}") 1 _ refl
    refl)))))) refl)

pub worked_control_spelled : SpellsProgram 5 worked_control_tree worked_control
worked_control_spelled =
    (cut (_ ∷ _ ∷ _ ∷ _ ∷ _ ∷ _ ∷ _ ∷ _ ∷ _ ∷ _ ∷ _ ∷ _ ∷ _ ∷ _ ∷ _ ∷ _ ∷ _ ∷ _ ∷ _ ∷ _ ∷ _ ∷ _ ∷ _ ∷ _ ∷ _ ∷ _ ∷ _ ∷ _ ∷ _ ∷ _
    ∷ _ ∷ _ ∷ _ ∷ _ ∷ _ ∷ _ ∷ _ ∷ _ ∷ _ ∷ _ ∷ _ ∷ _ ∷ _ ∷ _ ∷ _ ∷ _ ∷ _ ∷ _ ∷ _ ∷ _ ∷ _ ∷ _ ∷ _ ∷ _ ∷ _ ∷ _ ∷ _ ∷ _ ∷ _ ∷ _ ∷ _
    ∷ _ ∷ _ ∷ _ ∷ _ ∷ _ ∷ _ ∷ _ ∷ _ ∷ _ ∷ _ ∷ _ ∷ _ ∷ _ ∷ _ ∷ _ ∷ _ ∷ _ ∷ _ ∷ _ ∷ _ ∷ _ ∷ _ ∷ _ ∷ _ ∷ _ ∷ _ ∷ _ ∷ _ ∷ _ ∷ _ ∷ _
    ∷ _ ∷ _ ∷ _ ∷ _ ∷ _ ∷ _ ∷ _ ∷ _ ∷ _ ∷ _ ∷ _ ∷ _ ∷ _ ∷ _ ∷ _ ∷ _ ∷ _ ∷ _ ∷ _ ∷ _ ∷ _ ∷ _ ∷ _ ∷ _ ∷ _ ∷ _ ∷ _ ∷ _ ∷ _ ∷ _ ∷ _
    ∷ _ ∷ _ ∷ _ ∷ _ ∷ _ ∷ _ ∷ _ ∷ _ ∷ _ ∷ _ ∷ _ ∷ _ ∷ _ ∷ _ ∷ _ ∷ _ ∷ _ ∷ _ ∷ _ ∷ _ ∷ _ ∷ _ ∷ _ ∷ _ ∷ _ ∷ _ ∷ _ ∷ _ ∷ _ ∷ _ ∷ _
    ∷ _ ∷ _ ∷ _ ∷ _ ∷ _ ∷ _ ∷ _ ∷ _ ∷ _ ∷ _ ∷ _ ∷ _ ∷ _ ∷ _ ∷ _ ∷ _ ∷ _ ∷ _ ∷ _ ∷ _ ∷ _ ∷ _ ∷ _ ∷ _ ∷ _ ∷ _ ∷ _ ∷ _ ∷ _ ∷ _ ∷ _
    ∷ _ ∷ _ ∷ _ ∷ _ ∷ _ ∷ _ ∷ _ ∷ _ ∷ _ ∷ _ ∷ _ ∷ _ ∷ _ ∷ _ ∷ _ ∷ _ ∷ _ ∷ _ ∷ _ ∷ _ ∷ _ ∷ _ ∷ _ ∷ _ ∷ _ ∷ _ ∷ _ ∷ _ ∷ _ ∷ _ ∷ _
    ∷ _ ∷ _ ∷ _ ∷ _ ∷ _ ∷ _ ∷ _ ∷ _ ∷ _ ∷ _ ∷ _ ∷ _ ∷ _ ∷ _ ∷ _ ∷ _ ∷ _ ∷ _ ∷ _ ∷ _ ∷ _ ∷ _ ∷ _ ∷ _ ∷ _ ∷ _ ∷ _ ∷ _ ∷ _ ∷ _ ∷ _
    ∷ _ ∷ _ ∷ _ ∷ _ ∷ _ ∷ _ ∷ _ ∷ _ ∷ _ ∷ _ ∷ _ ∷ _ ∷ _ ∷ _ ∷ _ ∷ _ ∷ _ ∷ _ ∷ _ ∷ _ ∷ _ ∷ _ ∷ _ ∷ _ ∷ _ ∷ _ ∷ _ ∷ _ ∷ _ ∷ _ ∷ _
    ∷ _ ∷ _ ∷ _ ∷ _ ∷ _ ∷ _ ∷ _ ∷ _ ∷ _ ∷ _ ∷ _ ∷ _ ∷ _ ∷ _ ∷ _ ∷ _ ∷ _ ∷ _ ∷ _ ∷ _ ∷ _ ∷ _ ∷ _ ∷ _ ∷ _ ∷ _ ∷ _ ∷ _ ∷ _ ∷ _ ∷ _
    ∷ _ ∷ _ ∷ _ ∷ _ ∷ _ ∷ _ ∷ _ ∷ _ ∷ _ ∷ _ ∷ _ ∷ _ ∷ _ ∷ _ ∷ _ ∷ _ ∷ _ ∷ _ ∷ _ ∷ _ ∷ _ ∷ _ ∷ _ ∷ _ ∷ _ ∷ _ ∷ _ ∷ _ ∷ _ ∷ _ ∷ _
    ∷ _ ∷ _ ∷ _ ∷ _ ∷ _ ∷ _ ∷ _ ∷ _ ∷ _ ∷ _ ∷ _ ∷ _ ∷ _ ∷ _ ∷ _ ∷ _ ∷ _ ∷ _ ∷ _ ∷ _ ∷ _ ∷ _ ∷ _ ∷ _ ∷ _ ∷ _ ∷ _ ∷ _ ∷ _ ∷ _ ∷ _
    ∷ _ ∷ _ ∷ _ ∷ _ ∷ _ ∷ _ ∷ _ ∷ _ ∷ _ ∷ _ ∷ _ ∷ _ ∷ _ ∷ _ ∷ _ ∷ _ ∷ _ ∷ _ ∷ _ ∷ _ ∷ []) _ (reserved_first (codes "control") 3
    _ _ refl refl (name_first (codes "C") _ _ refl refl (cut (_ ∷ _ ∷ _ ∷ _ ∷ _ ∷ _ ∷ _ ∷ _ ∷ _ ∷ _ ∷ _ ∷ _ ∷ _ ∷ []) _
    (sign_first (codes "(") 2 _ _ refl refl (cut (_ ∷ _ ∷ _ ∷ _ ∷ _ ∷ _ ∷ _ ∷ _ ∷ _ ∷ _ ∷ _ ∷ []) _ (reserved_first (codes
    "inout") 11 _ _ refl refl (name_first (codes "headers_t") _ _ refl refl (name_first (codes "hdr") _ _ refl refl (sign_first
    (codes ",") 10 _ _ refl refl (reserved_first (codes "inout") 11 _ _ refl refl (name_first (codes "meta_t") _ _ refl refl
    (name_first (codes "meta") _ _ refl refl (sign_first (codes ",") 10 _ _ refl refl (reserved_first (codes "inout") 11 _ _
    refl refl (name_first (codes "std_t") _ _ refl refl (name_last (codes "std") _ refl refl))))))))))) (sign_last (codes ")")
    3 _ refl refl))) (sign_first (codes "{") 0 _ _ refl refl (cut (_ ∷ _ ∷ _ ∷ _ ∷ _ ∷ _ ∷ _ ∷ _ ∷ _ ∷ _ ∷ _ ∷ _ ∷ _ ∷ _ ∷ _ ∷
    _ ∷ _ ∷ _ ∷ _ ∷ _ ∷ _ ∷ _ ∷ _ ∷ _ ∷ _ ∷ _ ∷ _ ∷ _ ∷ _ ∷ _ ∷ _ ∷ _ ∷ _ ∷ _ ∷ _ ∷ _ ∷ _ ∷ _ ∷ _ ∷ _ ∷ _ ∷ _ ∷ _ ∷ _ ∷ _ ∷ _ ∷
    _ ∷ _ ∷ _ ∷ _ ∷ _ ∷ _ ∷ _ ∷ _ ∷ _ ∷ _ ∷ _ ∷ _ ∷ _ ∷ _ ∷ _ ∷ _ ∷ _ ∷ _ ∷ _ ∷ _ ∷ _ ∷ _ ∷ _ ∷ _ ∷ _ ∷ _ ∷ _ ∷ _ ∷ _ ∷ _ ∷ _ ∷
    _ ∷ _ ∷ _ ∷ _ ∷ _ ∷ _ ∷ _ ∷ _ ∷ _ ∷ _ ∷ _ ∷ _ ∷ _ ∷ _ ∷ _ ∷ _ ∷ _ ∷ _ ∷ _ ∷ _ ∷ _ ∷ _ ∷ _ ∷ _ ∷ _ ∷ _ ∷ _ ∷ _ ∷ _ ∷ _ ∷ _ ∷
    _ ∷ _ ∷ _ ∷ _ ∷ _ ∷ _ ∷ _ ∷ _ ∷ _ ∷ _ ∷ _ ∷ _ ∷ _ ∷ _ ∷ _ ∷ _ ∷ _ ∷ _ ∷ _ ∷ _ ∷ _ ∷ _ ∷ _ ∷ _ ∷ _ ∷ _ ∷ _ ∷ _ ∷ _ ∷ _ ∷ _ ∷
    _ ∷ _ ∷ _ ∷ _ ∷ _ ∷ _ ∷ _ ∷ _ ∷ _ ∷ _ ∷ _ ∷ _ ∷ _ ∷ _ ∷ _ ∷ _ ∷ _ ∷ _ ∷ _ ∷ _ ∷ _ ∷ _ ∷ _ ∷ _ ∷ _ ∷ _ ∷ _ ∷ _ ∷ _ ∷ _ ∷ _ ∷
    _ ∷ _ ∷ _ ∷ _ ∷ _ ∷ _ ∷ _ ∷ _ ∷ _ ∷ _ ∷ _ ∷ _ ∷ _ ∷ _ ∷ _ ∷ _ ∷ _ ∷ _ ∷ _ ∷ _ ∷ _ ∷ _ ∷ _ ∷ _ ∷ _ ∷ _ ∷ _ ∷ _ ∷ _ ∷ _ ∷ _ ∷
    _ ∷ _ ∷ _ ∷ _ ∷ _ ∷ _ ∷ _ ∷ _ ∷ _ ∷ _ ∷ _ ∷ _ ∷ _ ∷ _ ∷ _ ∷ _ ∷ _ ∷ _ ∷ _ ∷ _ ∷ _ ∷ _ ∷ _ ∷ _ ∷ _ ∷ _ ∷ _ ∷ _ ∷ _ ∷ _ ∷ _ ∷
    _ ∷ _ ∷ _ ∷ _ ∷ _ ∷ _ ∷ _ ∷ _ ∷ _ ∷ _ ∷ _ ∷ _ ∷ _ ∷ _ ∷ _ ∷ _ ∷ _ ∷ _ ∷ _ ∷ _ ∷ _ ∷ _ ∷ _ ∷ _ ∷ _ ∷ _ ∷ _ ∷ _ ∷ _ ∷ _ ∷ _ ∷
    _ ∷ _ ∷ _ ∷ _ ∷ _ ∷ _ ∷ _ ∷ _ ∷ _ ∷ _ ∷ _ ∷ _ ∷ _ ∷ _ ∷ _ ∷ _ ∷ _ ∷ _ ∷ _ ∷ _ ∷ _ ∷ _ ∷ _ ∷ _ ∷ _ ∷ _ ∷ _ ∷ _ ∷ _ ∷ _ ∷ _ ∷
    _ ∷ _ ∷ _ ∷ _ ∷ _ ∷ _ ∷ _ ∷ _ ∷ _ ∷ _ ∷ _ ∷ _ ∷ _ ∷ _ ∷ _ ∷ _ ∷ _ ∷ _ ∷ _ ∷ _ ∷ _ ∷ _ ∷ _ ∷ _ ∷ _ ∷ _ ∷ _ ∷ _ ∷ _ ∷ _ ∷ _ ∷
    _ ∷ _ ∷ _ ∷ _ ∷ _ ∷ _ ∷ _ ∷ _ ∷ _ ∷ _ ∷ _ ∷ _ ∷ _ ∷ _ ∷ _ ∷ _ ∷ _ ∷ _ ∷ _ ∷ _ ∷ _ ∷ _ ∷ _ ∷ _ ∷ _ ∷ _ ∷ _ ∷ _ ∷ _ ∷ _ ∷ _ ∷
    _ ∷ _ ∷ _ ∷ _ ∷ _ ∷ _ ∷ _ ∷ _ ∷ _ ∷ _ ∷ _ ∷ _ ∷ _ ∷ _ ∷ _ ∷ _ ∷ _ ∷ _ ∷ []) _ (cut (_ ∷ _ ∷ _ ∷ _ ∷ _ ∷ _ ∷ _ ∷ _ ∷ _ ∷ _ ∷
    _ ∷ _ ∷ _ ∷ _ ∷ _ ∷ _ ∷ _ ∷ _ ∷ _ ∷ _ ∷ _ ∷ _ ∷ _ ∷ _ ∷ _ ∷ _ ∷ _ ∷ _ ∷ _ ∷ _ ∷ _ ∷ _ ∷ _ ∷ _ ∷ _ ∷ _ ∷ _ ∷ _ ∷ _ ∷ _ ∷ _ ∷
    _ ∷ _ ∷ _ ∷ _ ∷ _ ∷ _ ∷ _ ∷ _ ∷ _ ∷ _ ∷ _ ∷ _ ∷ _ ∷ _ ∷ _ ∷ _ ∷ _ ∷ _ ∷ _ ∷ _ ∷ _ ∷ _ ∷ _ ∷ _ ∷ _ ∷ _ ∷ _ ∷ _ ∷ _ ∷ _ ∷ _ ∷
    _ ∷ _ ∷ _ ∷ _ ∷ _ ∷ _ ∷ _ ∷ _ ∷ _ ∷ _ ∷ _ ∷ _ ∷ _ ∷ _ ∷ _ ∷ _ ∷ _ ∷ _ ∷ _ ∷ _ ∷ _ ∷ _ ∷ _ ∷ _ ∷ _ ∷ _ ∷ _ ∷ _ ∷ _ ∷ _ ∷ _ ∷
    _ ∷ _ ∷ _ ∷ _ ∷ _ ∷ _ ∷ _ ∷ _ ∷ _ ∷ _ ∷ _ ∷ _ ∷ _ ∷ _ ∷ _ ∷ _ ∷ _ ∷ _ ∷ _ ∷ _ ∷ _ ∷ _ ∷ _ ∷ _ ∷ _ ∷ _ ∷ _ ∷ _ ∷ _ ∷ _ ∷ _ ∷
    _ ∷ _ ∷ _ ∷ _ ∷ _ ∷ _ ∷ _ ∷ _ ∷ _ ∷ _ ∷ _ ∷ _ ∷ _ ∷ _ ∷ _ ∷ _ ∷ _ ∷ _ ∷ _ ∷ _ ∷ _ ∷ _ ∷ _ ∷ _ ∷ _ ∷ _ ∷ _ ∷ _ ∷ _ ∷ _ ∷ _ ∷
    _ ∷ _ ∷ _ ∷ _ ∷ _ ∷ _ ∷ _ ∷ _ ∷ _ ∷ _ ∷ _ ∷ _ ∷ _ ∷ _ ∷ _ ∷ _ ∷ _ ∷ _ ∷ _ ∷ _ ∷ _ ∷ _ ∷ _ ∷ _ ∷ _ ∷ _ ∷ _ ∷ _ ∷ _ ∷ _ ∷ _ ∷
    _ ∷ _ ∷ _ ∷ _ ∷ _ ∷ _ ∷ _ ∷ _ ∷ _ ∷ _ ∷ _ ∷ _ ∷ _ ∷ _ ∷ _ ∷ _ ∷ _ ∷ _ ∷ _ ∷ _ ∷ _ ∷ _ ∷ _ ∷ _ ∷ _ ∷ _ ∷ _ ∷ _ ∷ []) _ (cut
    (_ ∷ _ ∷ _ ∷ _ ∷ _ ∷ _ ∷ _ ∷ _ ∷ _ ∷ _ ∷ _ ∷ _ ∷ _ ∷ _ ∷ _ ∷ _ ∷ _ ∷ _ ∷ _ ∷ _ ∷ _ ∷ _ ∷ _ ∷ _ ∷ _ ∷ _ ∷ _ ∷ _ ∷ _ ∷ _ ∷ _
    ∷ _ ∷ _ ∷ _ ∷ _ ∷ _ ∷ _ ∷ _ ∷ _ ∷ _ ∷ _ ∷ _ ∷ _ ∷ _ ∷ _ ∷ _ ∷ _ ∷ _ ∷ _ ∷ _ ∷ _ ∷ _ ∷ _ ∷ _ ∷ _ ∷ _ ∷ _ ∷ _ ∷ _ ∷ _ ∷ _ ∷ _
    ∷ _ ∷ _ ∷ _ ∷ _ ∷ _ ∷ _ ∷ _ ∷ _ ∷ _ ∷ _ ∷ _ ∷ _ ∷ _ ∷ _ ∷ _ ∷ []) _ (reserved_first (codes "action") 0 _ _ refl refl
    (name_first (codes "a") _ _ refl refl (cut (_ ∷ _ ∷ _ ∷ _ ∷ []) _ (sign_first (codes "[") 4 _ _ refl refl (cut (_ ∷ _ ∷ [])
    _ (reserved_first (codes "int") 12 _ _ refl refl (name_last (codes "i") _ refl refl)) (sign_last (codes "]") 5 _ refl
    refl))) (cut (_ ∷ _ ∷ _ ∷ _ ∷ _ ∷ _ ∷ _ ∷ []) _ (sign_first (codes "(") 2 _ _ refl refl (cut (_ ∷ _ ∷ _ ∷ _ ∷ _ ∷ []) _
    (cut (_ ∷ _ ∷ _ ∷ _ ∷ _ ∷ []) _ (cut (_ ∷ _ ∷ _ ∷ _ ∷ []) _ (
      lit< tt,
      (reserved_first (codes "bit") 1 _ _ refl refl
          (sign_first (codes "<") 6 _ _ refl refl (word_first _ _ refl (sign_last (codes ">") 7 _ refl refl)))),
    ) (name_last (codes
    "p") _ refl refl)) refl) (sign_last (codes ")") 3 _ refl refl))) (sign_first (codes "{") 0 _ _ refl refl (cut (_ ∷ _ ∷ _ ∷
    _ ∷ _ ∷ _ ∷ _ ∷ _ ∷ _ ∷ _ ∷ _ ∷ _ ∷ _ ∷ _ ∷ _ ∷ _ ∷ _ ∷ _ ∷ _ ∷ _ ∷ _ ∷ _ ∷ _ ∷ _ ∷ _ ∷ _ ∷ _ ∷ _ ∷ _ ∷ _ ∷ _ ∷ _ ∷ _ ∷ _ ∷
    _ ∷ _ ∷ _ ∷ _ ∷ _ ∷ _ ∷ _ ∷ _ ∷ _ ∷ _ ∷ _ ∷ _ ∷ _ ∷ _ ∷ _ ∷ _ ∷ _ ∷ _ ∷ _ ∷ _ ∷ _ ∷ _ ∷ _ ∷ _ ∷ _ ∷ _ ∷ _ ∷ _ ∷ []) _ (cut
    (_ ∷ _ ∷ _ ∷ _ ∷ _ ∷ _ ∷ _ ∷ _ ∷ _ ∷ _ ∷ _ ∷ _ ∷ _ ∷ _ ∷ _ ∷ _ ∷ _ ∷ _ ∷ _ ∷ _ ∷ []) _ (cut (_ ∷ _ ∷ _ ∷ _ ∷ _ ∷ _ ∷ []) _
    (name_first (codes "meta") _ _ refl refl (sign_first (codes ".") 11 _ _ refl refl (name_first (codes "x") _ _ refl refl
    (sign_first (codes "[") 4 _ _ refl refl (cut (_ ∷ []) _ (name_last (codes "i") _ refl refl) (sign_last (codes "]") 5 _ refl
    refl)))))) (sign_first (codes "=") 12 _ _ refl refl (cut (_ ∷ _ ∷ _ ∷ _ ∷ _ ∷ _ ∷ _ ∷ _ ∷ _ ∷ _ ∷ _ ∷ _ ∷ []) _ (
    (lift 10
    (SpellsLevel.prefixed (SpellsPrefixed.primary (SpellsPrimary.hash (_ ∷ []) (_ ∷ []) (_ ∷ _ ∷ []) (_ ∷ _ ∷ _ ∷ _ ∷ _ ∷ [])
    (_ ∷ _ ∷ []) (_ ∷ []) (name_last (codes "hash") _ refl refl) (sign_last (codes "(") 2 _ refl refl) (cut (_ ∷ []) _
    (name_last (codes "i") _ refl refl) (sign_last (codes ",") 10 _ refl refl)) (lift 10 (SpellsLevel.prefixed
    (SpellsPrefixed.primary (SpellsPrimary.place (cut (_ ∷ _ ∷ _ ∷ []) _ (name_first (codes "hdr") _ _ refl refl (sign_first
    (codes ".") 11 _ _ refl refl (name_last (codes "h") _ refl refl))) (sign_first (codes ".") 11 _ _ refl refl (name_last
    (codes "v") _ refl refl))))))) (sign_first (codes ",") 10 _ _ refl refl (name_last (codes "n") _ refl refl)) (sign_last
    (codes ")") 3 _ refl refl) refl))))
    ) (sign_last (codes ";") 8 _ refl refl)))) (cut (_ ∷ _ ∷ _ ∷ _ ∷ _ ∷ _ ∷ _ ∷ _
    ∷ _ ∷ _ ∷ _ ∷ _ ∷ _ ∷ _ ∷ _ ∷ _ ∷ _ ∷ []) _ (cut (_ ∷ _ ∷ _ ∷ _ ∷ _ ∷ _ ∷ []) _ (name_first (codes "meta") _ _ refl refl
    (sign_first (codes ".") 11 _ _ refl refl (name_first (codes "x") _ _ refl refl (sign_first (codes "[") 4 _ _ refl refl (cut
    (_ ∷ []) _ (name_last (codes "i") _ refl refl) (sign_last (codes "]") 5 _ refl refl)))))) (sign_first (codes "=") 12 _ _
    refl refl (cut (_ ∷ _ ∷ _ ∷ _ ∷ []) _ (name_first (codes "r") _ _ refl refl (sign_first (codes "[") 4 _ _ refl refl (cut (_
    ∷ []) _ (name_last (codes "i") _ refl refl) (sign_last (codes "]") 5 _ refl refl)))) (sign_first (codes ".") 11 _ _ refl
    refl (name_first (codes "read") _ _ refl refl (cut (_ ∷ _ ∷ _ ∷ []) _ (sign_first (codes "(") 2 _ _ refl refl (cut (_ ∷ [])
    _ (
    (lift 10 (SpellsLevel.prefixed (SpellsPrefixed.primary (SpellsPrimary.name (name_last (codes "p") _ refl refl)))))
    ) (sign_last (codes ")") 3 _ refl refl))) (sign_last (codes ";") 8 _ refl refl))))))) (cut (_ ∷ _ ∷ _ ∷ _ ∷ _ ∷ _ ∷ _ ∷ _
    ∷ _ ∷ _ ∷ _ ∷ _ ∷ _ ∷ _ ∷ _ ∷ _ ∷ _ ∷ []) _ (cut (_ ∷ _ ∷ _ ∷ _ ∷ []) _ (name_first (codes "r") _ _ refl refl (sign_first
    (codes "[") 4 _ _ refl refl (cut (_ ∷ []) _ (name_last (codes "i") _ refl refl) (sign_last (codes "]") 5 _ refl refl))))
    (sign_first (codes ".") 11 _ _ refl refl (name_first (codes "write") _ _ refl refl (cut (_ ∷ _ ∷ _ ∷ _ ∷ _ ∷ _ ∷ _ ∷ _ ∷ _
    ∷ _ ∷ []) _ (sign_first (codes "(") 2 _ _ refl refl (cut (_ ∷ _ ∷ _ ∷ _ ∷ _ ∷ _ ∷ _ ∷ _ ∷ []) _ (cut (_ ∷ _ ∷ _ ∷ _ ∷ _ ∷ _
    ∷ []) _ (
    (lift 10 (SpellsLevel.prefixed (SpellsPrefixed.primary (SpellsPrimary.place (name_first (codes "meta") _ _ refl
    refl (sign_first (codes ".") 11 _ _ refl refl (name_first (codes "x") _ _ refl refl (sign_first (codes "[") 4 _ _ refl refl
    (cut (_ ∷ []) _ (name_last (codes "i") _ refl refl) (sign_last (codes "]") 5 _ refl refl))))))))))
    ) (sign_first
    (codes ",") 10 _ _ refl refl (
    (lift 10 (SpellsLevel.prefixed (SpellsPrefixed.primary (SpellsPrimary.number (
      (tt, lit< tt),
      word_last _ refl,
    )))))
    ))) (sign_last (codes ")") 3 _ refl refl))) (sign_last (codes ";") 8 _ refl refl))))) (cut (_
    ∷ _ ∷ _ ∷ _ ∷ _ ∷ _ ∷ _ ∷ _ ∷ []) _ (cut (_ ∷ _ ∷ _ ∷ []) _ (name_first (codes "hdr") _ _ refl refl (sign_first (codes ".")
    11 _ _ refl refl (name_last (codes "h") _ refl refl))) (sign_first (codes ".") 11 _ _ refl refl (name_first (codes
    "setInvalid") _ _ refl refl (cut (_ ∷ _ ∷ []) _ (sign_first (codes "(") 2 _ _ refl refl (cut ([]) _ refl (sign_last (codes
    ")") 3 _ refl refl))) (sign_last (codes ";") 8 _ refl refl))))) refl)))) (sign_last (codes "}") 1 _ refl refl))))))) (cut
    (_ ∷ _ ∷ _ ∷ _ ∷ _ ∷ _ ∷ _ ∷ _ ∷ _ ∷ _ ∷ _ ∷ _ ∷ _ ∷ _ ∷ _ ∷ _ ∷ _ ∷ _ ∷ _ ∷ _ ∷ _ ∷ _ ∷ _ ∷ _ ∷ _ ∷ _ ∷ _ ∷ _ ∷ _ ∷ _ ∷ _
    ∷ _ ∷ _ ∷ _ ∷ _ ∷ _ ∷ _ ∷ _ ∷ _ ∷ _ ∷ _ ∷ _ ∷ _ ∷ _ ∷ _ ∷ _ ∷ _ ∷ _ ∷ _ ∷ _ ∷ _ ∷ _ ∷ _ ∷ _ ∷ _ ∷ _ ∷ _ ∷ _ ∷ []) _
    (reserved_first (codes "action") 0 _ _ refl refl (name_first (codes "b") _ _ refl refl (cut ([]) _ refl (cut (_ ∷ _ ∷ _ ∷ _
    ∷ _ ∷ _ ∷ _ ∷ _ ∷ _ ∷ _ ∷ _ ∷ _ ∷ _ ∷ []) _ (sign_first (codes "(") 2 _ _ refl refl (cut (_ ∷ _ ∷ _ ∷ _ ∷ _ ∷ _ ∷ _ ∷ _ ∷ _
    ∷ _ ∷ _ ∷ []) _ (cut (_ ∷ _ ∷ _ ∷ _ ∷ _ ∷ []) _ (cut (_ ∷ _ ∷ _ ∷ _ ∷ []) _ (
      lit< tt,
      (reserved_first (codes "bit") 1 _ _
          refl refl (sign_first (codes "<") 6 _ _ refl refl (word_first _ _ refl (sign_last (codes ">") 7 _ refl refl)))),
    ) (name_last
    (codes "p") _ refl refl)) (cut (_ ∷ _ ∷ _ ∷ _ ∷ _ ∷ _ ∷ []) _ (sign_first (codes ",") 10 _ _ refl refl (cut (_ ∷ _ ∷ _ ∷ _
    ∷ []) _ (
      lit< tt,
      (reserved_first (codes "bit") 1 _ _ refl refl (sign_first (codes "<") 6 _ _ refl refl (word_first _ _
          refl (sign_last (codes ">") 7 _ refl refl)))),
    ) (name_last (codes "q") _ refl refl))) refl)) (sign_last (codes ")") 3 _ refl
    refl))) (sign_first (codes "{") 0 _ _ refl refl (cut (_ ∷ _ ∷ _ ∷ _ ∷ _ ∷ _ ∷ _ ∷ _ ∷ _ ∷ _ ∷ _ ∷ _ ∷ _ ∷ _ ∷ _ ∷ _ ∷ _ ∷ _
    ∷ _ ∷ _ ∷ _ ∷ _ ∷ _ ∷ _ ∷ _ ∷ _ ∷ _ ∷ _ ∷ _ ∷ _ ∷ _ ∷ _ ∷ _ ∷ _ ∷ _ ∷ _ ∷ _ ∷ _ ∷ _ ∷ _ ∷ _ ∷ []) _ (cut (_ ∷ _ ∷ _ ∷ _ ∷ _
    ∷ _ ∷ _ ∷ _ ∷ []) _ (cut (_ ∷ _ ∷ _ ∷ _ ∷ _ ∷ []) _ (cut (_ ∷ _ ∷ _ ∷ []) _ (name_first (codes "hdr") _ _ refl refl
    (sign_first (codes ".") 11 _ _ refl refl (name_last (codes "h") _ refl refl))) (sign_first (codes ".") 11 _ _ refl refl
    (name_last (codes "v") _ refl refl))) (sign_first (codes "=") 12 _ _ refl refl (cut (_ ∷ []) _ (
    (lift 10
    (SpellsLevel.prefixed (SpellsPrefixed.primary (SpellsPrimary.name (name_last (codes "p") _ refl refl)))))
    )
    (sign_last (codes ";") 8 _ refl refl)))) (cut (_ ∷ _ ∷ _ ∷ _ ∷ _ ∷ _ ∷ _ ∷ _ ∷ _ ∷ _ ∷ _ ∷ _ ∷ _ ∷ _ ∷ []) _ (cut (_ ∷ _ ∷
    _ ∷ []) _ (name_first (codes "meta") _ _ refl refl (sign_first (codes ".") 11 _ _ refl refl (name_first (codes "y") _ _
    refl refl refl))) (sign_first (codes "=") 12 _ _ refl refl (cut (_ ∷ _ ∷ _ ∷ _ ∷ _ ∷ _ ∷ _ ∷ _ ∷ _ ∷ []) _ (
    (lift 4
    (SpellsLevel.binary BitOr (_ ∷ _ ∷ _ ∷ []) (_ ∷ []) (_ ∷ _ ∷ _ ∷ _ ∷ _ ∷ []) record { coded = refl; level_is = refl } (lift
    4 (SpellsLevel.binary Join (_ ∷ []) (_ ∷ []) (_ ∷ []) record { coded = refl; level_is = refl } (lift 2
    (SpellsLevel.prefixed (SpellsPrefixed.primary (SpellsPrimary.name (name_last (codes "q") _ refl refl))))) (sign_last (codes
    "++") 21 _ refl refl) (lift 1 (SpellsLevel.prefixed (SpellsPrefixed.primary (SpellsPrimary.name (name_last (codes "p") _
    refl refl))))) refl)) (sign_last (codes "|") 17 _ refl refl) (SpellsLevel.binary BitXor (_ ∷ []) (_ ∷ []) (_ ∷ _ ∷ _ ∷ [])
    record { coded = refl; level_is = refl } (lift 5 (SpellsLevel.prefixed (SpellsPrefixed.primary (SpellsPrimary.name
    (name_last (codes "p") _ refl refl))))) (sign_last (codes "^") 18 _ refl refl) (SpellsLevel.binary BitAnd (_ ∷ []) (_ ∷ [])
    (_ ∷ []) record { coded = refl; level_is = refl } (lift 4 (SpellsLevel.prefixed (SpellsPrefixed.primary (SpellsPrimary.name
    (name_last (codes "p") _ refl refl))))) (sign_last (codes "&") 16 _ refl refl) (lift 3 (SpellsLevel.prefixed
    (SpellsPrefixed.primary (SpellsPrimary.name (name_last (codes "p") _ refl refl))))) refl) refl) refl))
    ) (sign_last
    (codes ";") 8 _ refl refl)))) (cut (_ ∷ _ ∷ _ ∷ _ ∷ _ ∷ _ ∷ _ ∷ _ ∷ []) _ (cut (_ ∷ _ ∷ _ ∷ []) _ (name_first (codes "hdr")
    _ _ refl refl (sign_first (codes ".") 11 _ _ refl refl (name_last (codes "h") _ refl refl))) (sign_first (codes ".") 11 _ _
    refl refl (name_first (codes "setValid") _ _ refl refl (cut (_ ∷ _ ∷ []) _ (sign_first (codes "(") 2 _ _ refl refl (cut
    ([]) _ refl (sign_last (codes ")") 3 _ refl refl))) (sign_last (codes ";") 8 _ refl refl))))) (cut (_ ∷ _ ∷ _ ∷ _ ∷ _ ∷ _ ∷
    _ ∷ _ ∷ _ ∷ _ ∷ _ ∷ []) _ (cut (_ ∷ _ ∷ _ ∷ []) _ (name_first (codes "meta") _ _ refl refl (sign_first (codes ".") 11 _ _
    refl refl (name_first (codes "y") _ _ refl refl refl))) (sign_first (codes "=") 12 _ _ refl refl (cut (_ ∷ []) _
    (name_first (codes "s") _ _ refl refl refl) (sign_first (codes ".") 11 _ _ refl refl (name_first (codes "read") _ _ refl
    refl (cut (_ ∷ _ ∷ _ ∷ []) _ (sign_first (codes "(") 2 _ _ refl refl (cut (_ ∷ []) _ (
    (lift 10 (SpellsLevel.prefixed
    (SpellsPrefixed.primary (SpellsPrimary.number ((lit< tt, lit< tt), word_last _ refl)))))
    ) (sign_last (codes ")") 3
    _ refl refl))) (sign_last (codes ";") 8 _ refl refl))))))) refl)))) (sign_last (codes "}") 1 _ refl refl))))))) (cut (_ ∷ _
    ∷ _ ∷ _ ∷ _ ∷ _ ∷ _ ∷ _ ∷ _ ∷ _ ∷ _ ∷ _ ∷ _ ∷ _ ∷ _ ∷ _ ∷ _ ∷ _ ∷ _ ∷ _ ∷ _ ∷ _ ∷ _ ∷ _ ∷ _ ∷ _ ∷ _ ∷ _ ∷ _ ∷ _ ∷ []) _
    record {
      properties = ((Property.Actions ((codes "NoAction") ∷ [])) ∷ (Property.Entries (record {
        keys = ((PlainKeyset.One
            (PlainExpr.Num None 5)) ∷ []);
        action = (codes "NoAction");
        args = [];
      } ∷ [])) ∷ (Property.Fallback (codes "b")
          ((PlainExpr.Num None 1) ∷ (PlainExpr.Named (codes "c")) ∷ [])) ∷ []);
      spelled = (reserved_first (codes "table") 19 _ _ refl
          refl (name_first (codes "u") _ _ refl refl (sign_first (codes "{") 0 _ _ refl refl (cut (_ ∷ _ ∷ _ ∷ _ ∷ _ ∷ _ ∷ _ ∷ _ ∷ _
          ∷ _ ∷ _ ∷ _ ∷ _ ∷ _ ∷ _ ∷ _ ∷ _ ∷ _ ∷ _ ∷ _ ∷ _ ∷ _ ∷ _ ∷ _ ∷ _ ∷ _ ∷ []) _ (cut (_ ∷ _ ∷ _ ∷ _ ∷ _ ∷ _ ∷ []) _ (name_first
          (codes "actions") _ _ refl refl (sign_first (codes "=") 12 _ _ refl refl (sign_first (codes "{") 0 _ _ refl refl (cut (_ ∷
          _ ∷ []) _ (cut (_ ∷ _ ∷ []) _ (name_first (codes "NoAction") _ _ refl refl (sign_last (codes ";") 8 _ refl refl)) refl)
          (sign_last (codes "}") 1 _ refl refl))))) (cut (_ ∷ _ ∷ _ ∷ _ ∷ _ ∷ _ ∷ _ ∷ _ ∷ _ ∷ _ ∷ _ ∷ []) _ (reserved_first (codes
          "const") 2 _ _ refl refl (name_first (codes "entries") _ _ refl refl (sign_first (codes "=") 12 _ _ refl refl (sign_first
          (codes "{") 0 _ _ refl refl (cut (_ ∷ _ ∷ _ ∷ _ ∷ _ ∷ _ ∷ []) _ (cut (_ ∷ _ ∷ _ ∷ _ ∷ _ ∷ _ ∷ []) _ (cut (_ ∷ []) _ (inl
          ((tt, lit< tt), word_last _ refl)) (sign_first (codes ":") 9 _ _ refl refl (name_first (codes "NoAction") _ _ refl refl
          (cut (_ ∷ _ ∷ []) _ (sign_first (codes "(") 2 _ _ refl refl (cut ([]) _ refl (sign_last (codes ")") 3 _ refl refl)))
          (sign_last (codes ";") 8 _ refl refl))))) refl) (sign_last (codes "}") 1 _ refl refl)))))) (cut (_ ∷ _ ∷ _ ∷ _ ∷ _ ∷ _ ∷ _
          ∷ _ ∷ _ ∷ []) _ (cut ([]) _ (inl refl) (name_first (codes "default_action") _ _ refl refl (sign_first (codes "=") 12 _ _
          refl refl (name_first (codes "b") _ _ refl refl (cut (_ ∷ _ ∷ _ ∷ _ ∷ _ ∷ []) _ (sign_first (codes "(") 2 _ _ refl refl
          (cut (_ ∷ _ ∷ _ ∷ []) _ (cut (_ ∷ []) _ ((tt, lit< tt), word_last _ refl) (cut (_ ∷ _ ∷ []) _ (sign_first (codes ",") 10 _
          _ refl refl (name_last (codes "c") _ refl refl)) refl)) (sign_last (codes ")") 3 _ refl refl))) (sign_last (codes ";") 8 _
          refl refl)))))) refl))) (sign_last (codes "}") 1 _ refl refl)))));
      no_two = apart_pairs ((Property.Actions ((codes
          "NoAction") ∷ [])) ∷ (Property.Entries (record {
            keys = ((PlainKeyset.One (PlainExpr.Num None 5)) ∷ []);
            action = (codes
                "NoAction");
            args = [];
          } ∷ [])) ∷ (Property.Fallback (codes "b") ((PlainExpr.Num None 1) ∷ (PlainExpr.Named (codes "c")) ∷
          [])) ∷ []) refl;
      has_them = refl;
    } (cut (_ ∷ _ ∷ _ ∷ _ ∷ _ ∷ _ ∷ _ ∷ _ ∷ _ ∷ _ ∷ _ ∷ _ ∷ _ ∷ _ ∷ _ ∷ _ ∷ _ ∷ _ ∷ _ ∷ _ ∷ _
    ∷ _ ∷ _ ∷ _ ∷ _ ∷ _ ∷ _ ∷ _ ∷ _ ∷ _ ∷ _ ∷ _ ∷ _ ∷ _ ∷ _ ∷ _ ∷ _ ∷ _ ∷ _ ∷ _ ∷ _ ∷ _ ∷ _ ∷ _ ∷ _ ∷ _ ∷ _ ∷ _ ∷ _ ∷ _ ∷ _ ∷ _
    ∷ _ ∷ _ ∷ _ ∷ _ ∷ _ ∷ _ ∷ _ ∷ []) _ record {
      properties = ((Property.Keys (record {
        field = (lval.Header (codes "h") (codes
            "v"));
        ternary = true;
      } ∷ record { field = (lval.Std (codes "in_port")); ternary = false } ∷ [])) ∷ (Property.Actions
          ((codes "b") ∷ (codes "NoAction") ∷ [])) ∷ (Property.Entries (record {
            keys = ((PlainKeyset.Masked (PlainExpr.Num None 5)
                (PlainExpr.Num None 15)) ∷ PlainKeyset.Any ∷ []);
            action = (codes "b");
            args = ((PlainExpr.Num (Some 8) 1) ∷ []);
          } ∷ [])) ∷
          (Property.Fallback (codes "NoAction") []) ∷ (Property.Size 4) ∷ []);
      spelled = (reserved_first (codes "table") 19 _ _ refl
          refl (name_first (codes "t") _ _ refl refl (sign_first (codes "{") 0 _ _ refl refl (cut (_ ∷ _ ∷ _ ∷ _ ∷ _ ∷ _ ∷ _ ∷ _ ∷ _
          ∷ _ ∷ _ ∷ _ ∷ _ ∷ _ ∷ _ ∷ _ ∷ _ ∷ _ ∷ _ ∷ _ ∷ _ ∷ _ ∷ _ ∷ _ ∷ _ ∷ _ ∷ _ ∷ _ ∷ _ ∷ _ ∷ _ ∷ _ ∷ _ ∷ _ ∷ _ ∷ _ ∷ _ ∷ _ ∷ _ ∷ _
          ∷ _ ∷ _ ∷ _ ∷ _ ∷ _ ∷ _ ∷ _ ∷ _ ∷ _ ∷ _ ∷ _ ∷ _ ∷ _ ∷ _ ∷ _ ∷ []) _ (cut (_ ∷ _ ∷ _ ∷ _ ∷ _ ∷ _ ∷ _ ∷ _ ∷ _ ∷ _ ∷ _ ∷ _ ∷ _
          ∷ _ ∷ _ ∷ _ ∷ _ ∷ _ ∷ []) _ (name_first (codes "key") _ _ refl refl (sign_first (codes "=") 12 _ _ refl refl (sign_first
          (codes "{") 0 _ _ refl refl (cut (_ ∷ _ ∷ _ ∷ _ ∷ _ ∷ _ ∷ _ ∷ _ ∷ _ ∷ _ ∷ _ ∷ _ ∷ _ ∷ _ ∷ []) _ (cut (_ ∷ _ ∷ _ ∷ _ ∷ _ ∷ _
          ∷ _ ∷ _ ∷ []) _ (cut (_ ∷ _ ∷ _ ∷ _ ∷ _ ∷ []) _ (cut (_ ∷ _ ∷ _ ∷ []) _ (name_first (codes "hdr") _ _ refl refl (sign_first
          (codes ".") 11 _ _ refl refl (name_last (codes "h") _ refl refl))) (sign_first (codes ".") 11 _ _ refl refl (name_last
          (codes "v") _ refl refl))) (sign_first (codes ":") 9 _ _ refl refl (name_first (codes "ternary") _ _ refl refl (sign_last
          (codes ";") 8 _ refl refl)))) (cut (_ ∷ _ ∷ _ ∷ _ ∷ _ ∷ _ ∷ []) _ (cut (_ ∷ _ ∷ _ ∷ []) _ (name_first (codes "std") _ _
          refl refl (sign_first (codes ".") 11 _ _ refl refl (name_last (codes "in_port") _ refl refl))) (sign_first (codes ":") 9 _
          _ refl refl (name_first (codes "exact") _ _ refl refl (sign_last (codes ";") 8 _ refl refl)))) refl)) (sign_last (codes
          "}") 1 _ refl refl))))) (cut (_ ∷ _ ∷ _ ∷ _ ∷ _ ∷ _ ∷ _ ∷ _ ∷ []) _ (name_first (codes "actions") _ _ refl refl (sign_first
          (codes "=") 12 _ _ refl refl (sign_first (codes "{") 0 _ _ refl refl (cut (_ ∷ _ ∷ _ ∷ _ ∷ []) _ (cut (_ ∷ _ ∷ []) _
          (name_first (codes "b") _ _ refl refl (sign_last (codes ";") 8 _ refl refl)) (cut (_ ∷ _ ∷ []) _ (name_first (codes
          "NoAction") _ _ refl refl (sign_last (codes ";") 8 _ refl refl)) refl)) (sign_last (codes "}") 1 _ refl refl))))) (cut (_ ∷
          _ ∷ _ ∷ _ ∷ _ ∷ _ ∷ _ ∷ _ ∷ _ ∷ _ ∷ _ ∷ _ ∷ _ ∷ _ ∷ _ ∷ _ ∷ _ ∷ _ ∷ []) _ (reserved_first (codes "const") 2 _ _ refl refl
          (name_first (codes "entries") _ _ refl refl (sign_first (codes "=") 12 _ _ refl refl (sign_first (codes "{") 0 _ _ refl
          refl (cut (_ ∷ _ ∷ _ ∷ _ ∷ _ ∷ _ ∷ _ ∷ _ ∷ _ ∷ _ ∷ _ ∷ _ ∷ _ ∷ []) _ (cut (_ ∷ _ ∷ _ ∷ _ ∷ _ ∷ _ ∷ _ ∷ _ ∷ _ ∷ _ ∷ _ ∷ _ ∷
          _ ∷ []) _ (cut (_ ∷ _ ∷ _ ∷ _ ∷ _ ∷ _ ∷ _ ∷ []) _ (inr (sign_first (codes "(") 2 _ _ refl refl (cut (_ ∷ _ ∷ _ ∷ _ ∷ _ ∷
          []) _ (cut (_ ∷ _ ∷ _ ∷ []) _ (cut (_ ∷ []) _ ((tt, lit< tt), word_last _ refl) (sign_first (codes "&&&") 29 _ _ refl refl
          ((tt, lit< tt), word_last _ refl))) (cut (_ ∷ _ ∷ []) _ (sign_first (codes ",") 10 _ _ refl refl (reserved_last (codes "_")
          22 _ refl refl)) refl)) (sign_last (codes ")") 3 _ refl refl)))) (sign_first (codes ":") 9 _ _ refl refl (name_first (codes
          "b") _ _ refl refl (cut (_ ∷ _ ∷ _ ∷ []) _ (sign_first (codes "(") 2 _ _ refl refl (cut (_ ∷ []) _ (cut (_ ∷ []) _ (
            (
              lit<
                  tt,
              lit< tt,
            ),
            word_last _ refl,
          ) refl) (sign_last (codes ")") 3 _ refl refl))) (sign_last (codes ";") 8 _ refl refl)))))
          refl) (sign_last (codes "}") 1 _ refl refl)))))) (cut (_ ∷ _ ∷ _ ∷ _ ∷ _ ∷ _ ∷ _ ∷ []) _ (cut (_ ∷ []) _ (inr
          (reserved_last (codes "const") 2 _ refl refl)) (name_first (codes "default_action") _ _ refl refl (sign_first (codes "=")
          12 _ _ refl refl (name_first (codes "NoAction") _ _ refl refl (cut (_ ∷ _ ∷ []) _ (sign_first (codes "(") 2 _ _ refl refl
          (cut ([]) _ refl (sign_last (codes ")") 3 _ refl refl))) (sign_last (codes ";") 8 _ refl refl)))))) (cut (_ ∷ _ ∷ _ ∷ _ ∷
          []) _ (
            lit< tt,
            (name_first (codes "size") _ _ refl refl (sign_first (codes "=") 12 _ _ refl refl (word_first _ _ refl
                (sign_last (codes ";") 8 _ refl refl)))),
          ) refl))))) (sign_last (codes "}") 1 _ refl refl)))));
      no_two = apart_pairs
          ((Property.Keys (record { field = (lval.Header (codes "h") (codes "v")); ternary = true } ∷ record {
            field = (lval.Std
                (codes "in_port"));
            ternary = false;
          } ∷ [])) ∷ (Property.Actions ((codes "b") ∷ (codes "NoAction") ∷ [])) ∷
          (Property.Entries (record {
            keys = ((PlainKeyset.Masked (PlainExpr.Num None 5) (PlainExpr.Num None 15)) ∷ PlainKeyset.Any ∷
                []);
            action = (codes "b");
            args = ((PlainExpr.Num (Some 8) 1) ∷ []);
          } ∷ [])) ∷ (Property.Fallback (codes "NoAction") []) ∷
          (Property.Size 4) ∷ []) refl;
      has_them = refl;
    } refl)))) (name_first (codes "apply") _ _ refl refl (sign_first (codes "{")
    0 _ _ refl refl (cut (_ ∷ _ ∷ _ ∷ _ ∷ _ ∷ _ ∷ _ ∷ _ ∷ _ ∷ _ ∷ _ ∷ _ ∷ _ ∷ _ ∷ _ ∷ _ ∷ _ ∷ _ ∷ _ ∷ _ ∷ _ ∷ _ ∷ _ ∷ _ ∷ _ ∷ _
    ∷ _ ∷ _ ∷ _ ∷ _ ∷ _ ∷ _ ∷ _ ∷ _ ∷ _ ∷ _ ∷ _ ∷ _ ∷ _ ∷ _ ∷ _ ∷ _ ∷ _ ∷ _ ∷ _ ∷ _ ∷ _ ∷ _ ∷ _ ∷ _ ∷ _ ∷ _ ∷ _ ∷ _ ∷ _ ∷ _ ∷ _
    ∷ _ ∷ _ ∷ _ ∷ _ ∷ _ ∷ _ ∷ _ ∷ _ ∷ _ ∷ _ ∷ _ ∷ _ ∷ _ ∷ _ ∷ _ ∷ _ ∷ _ ∷ _ ∷ _ ∷ _ ∷ _ ∷ _ ∷ _ ∷ _ ∷ _ ∷ _ ∷ _ ∷ _ ∷ _ ∷ _ ∷ _
    ∷ _ ∷ _ ∷ _ ∷ _ ∷ _ ∷ _ ∷ _ ∷ _ ∷ _ ∷ _ ∷ _ ∷ _ ∷ _ ∷ _ ∷ _ ∷ _ ∷ _ ∷ _ ∷ _ ∷ _ ∷ _ ∷ _ ∷ _ ∷ _ ∷ _ ∷ _ ∷ _ ∷ _ ∷ _ ∷ _ ∷ _
    ∷ _ ∷ _ ∷ _ ∷ _ ∷ _ ∷ _ ∷ _ ∷ _ ∷ _ ∷ _ ∷ _ ∷ _ ∷ _ ∷ _ ∷ _ ∷ _ ∷ _ ∷ _ ∷ _ ∷ _ ∷ _ ∷ _ ∷ _ ∷ _ ∷ _ ∷ _ ∷ _ ∷ _ ∷ []) _
    (SpellsStmts.one_more {open_end = false} (_ ∷ _ ∷ _ ∷ _ ∷ _ ∷ _ ∷ _ ∷ _ ∷ _ ∷ _ ∷ _ ∷ _ ∷ _ ∷ _ ∷ _ ∷ _ ∷ []) _
    (SpellsStmt.repeated (_ ∷ _ ∷ _ ∷ _ ∷ _ ∷ _ ∷ []) (_ ∷ []) (_ ∷ _ ∷ _ ∷ _ ∷ _ ∷ _ ∷ _ ∷ _ ∷ []) (_ ∷ []) (reserved_first
    (codes "for") 7 _ _ refl refl (sign_first (codes "(") 2 _ _ refl refl (cut (_ ∷ _ ∷ _ ∷ []) _ (name_first (codes "i") _ _
    refl refl (sign_first (codes "<") 6 _ _ refl refl (name_last (codes "n") _ refl refl))) (sign_last (codes ")") 3 _ refl
    refl)))) (sign_last (codes "{") 0 _ refl refl) (SpellsStmts.one_more {open_end = false} (_ ∷ _ ∷ _ ∷ _ ∷ _ ∷ _ ∷ _ ∷ _ ∷
    []) _ (SpellsStmt.called (name_first (codes "a") _ _ refl refl (cut (_ ∷ _ ∷ _ ∷ []) _ (sign_first (codes "[") 4 _ _ refl
    refl (cut (_ ∷ []) _ (name_last (codes "i") _ refl refl) (sign_last (codes "]") 5 _ refl refl))) (cut (_ ∷ _ ∷ _ ∷ []) _
    (sign_first (codes "(") 2 _ _ refl refl (cut (_ ∷ []) _ (cut (_ ∷ []) _ (
    (lift 10 (SpellsLevel.prefixed
    (SpellsPrefixed.primary (SpellsPrimary.name (name_last (codes "c") _ refl refl)))))
    ) refl) (sign_last (codes ")")
    3 _ refl refl))) (sign_last (codes ";") 8 _ refl refl))))) SpellsStmts.no_more refl) (sign_last (codes "}") 1 _ refl refl)
    refl) (SpellsStmts.one_more {open_end = false} (_ ∷ _ ∷ _ ∷ _ ∷ _ ∷ _ ∷ _ ∷ _ ∷ _ ∷ _ ∷ _ ∷ _ ∷ _ ∷ _ ∷ _ ∷ _ ∷ _ ∷ _ ∷ _ ∷
    _ ∷ _ ∷ _ ∷ _ ∷ _ ∷ _ ∷ _ ∷ []) _ (SpellsStmt.with_else (_ ∷ _ ∷ _ ∷ _ ∷ _ ∷ _ ∷ _ ∷ _ ∷ _ ∷ _ ∷ _ ∷ []) (_ ∷ _ ∷ _ ∷ _ ∷ _
    ∷ _ ∷ []) (_ ∷ []) (_ ∷ _ ∷ _ ∷ _ ∷ _ ∷ _ ∷ _ ∷ _ ∷ []) (reserved_first (codes "if") 9 _ _ refl refl (sign_first (codes
    "(") 2 _ _ refl refl (cut (_ ∷ _ ∷ _ ∷ _ ∷ _ ∷ _ ∷ _ ∷ _ ∷ []) _ (
    (lift 10 (SpellsLevel.prefixed (SpellsPrefixed.unary
    Negate (_ ∷ []) (_ ∷ _ ∷ _ ∷ _ ∷ _ ∷ _ ∷ _ ∷ []) record { coded = refl; level_is = refl } (sign_last (codes "!") 20 _ refl
    refl) (SpellsPrefixed.primary (SpellsPrimary.is_valid (cut (_ ∷ _ ∷ _ ∷ []) _ (name_first (codes "hdr") _ _ refl refl
    (sign_first (codes ".") 11 _ _ refl refl (name_last (codes "h") _ refl refl))) (sign_first (codes ".") 11 _ _ refl refl
    (name_first (codes "isValid") _ _ refl refl (sign_first (codes "(") 2 _ _ refl refl (cut ([]) _ refl (sign_last (codes ")")
    3 _ refl refl)))))))) refl)))
    ) (sign_last (codes ")") 3 _ refl refl)))) (SpellsBranch.alone refl
    (SpellsStmt.applied (name_first (codes "t") _ _ refl refl (sign_first (codes ".") 11 _ _ refl refl (name_first (codes
    "apply") _ _ refl refl (cut (_ ∷ _ ∷ []) _ (sign_first (codes "(") 2 _ _ refl refl (cut ([]) _ refl (sign_last (codes ")")
    3 _ refl refl))) (sign_last (codes ";") 8 _ refl refl))))))) (reserved_last (codes "else") 5 _ refl refl)
    (SpellsBranch.in_brackets (_ ∷ []) (_ ∷ _ ∷ _ ∷ _ ∷ _ ∷ _ ∷ []) (_ ∷ []) (sign_last (codes "{") 0 _ refl refl)
    (SpellsStmts.one_more {open_end = false} (_ ∷ _ ∷ _ ∷ _ ∷ _ ∷ _ ∷ []) _ (SpellsStmt.simple (cut (_ ∷ _ ∷ _ ∷ []) _
    (name_first (codes "std") _ _ refl refl (sign_first (codes ".") 11 _ _ refl refl (name_last (codes "drop") _ refl refl)))
    (sign_first (codes "=") 12 _ _ refl refl (cut (_ ∷ []) _ (
    (lift 10 (SpellsLevel.prefixed (SpellsPrefixed.primary
    (SpellsPrimary.number ((tt, lit< tt), word_last _ refl)))))
    ) (sign_last (codes ";") 8 _ refl refl)))))
    SpellsStmts.no_more refl) (sign_last (codes "}") 1 _ refl refl) refl) refl) (SpellsStmts.one_more {open_end = false} (_ ∷ _
    ∷ _ ∷ _ ∷ _ ∷ _ ∷ _ ∷ _ ∷ _ ∷ []) _ (SpellsStmt.block ([]) (_ ∷ []) (_ ∷ _ ∷ _ ∷ _ ∷ _ ∷ _ ∷ _ ∷ []) (_ ∷ []) refl
    (sign_last (codes "{") 0 _ refl refl) (SpellsStmts.one_more {open_end = false} (_ ∷ _ ∷ _ ∷ _ ∷ _ ∷ _ ∷ _ ∷ []) _
    (SpellsStmt.called (name_first (codes "b") _ _ refl refl (cut ([]) _ refl (cut (_ ∷ _ ∷ _ ∷ _ ∷ _ ∷ []) _ (sign_first
    (codes "(") 2 _ _ refl refl (cut (_ ∷ _ ∷ _ ∷ []) _ (cut (_ ∷ []) _ (
    (lift 10 (SpellsLevel.prefixed (SpellsPrefixed.primary
    (SpellsPrimary.number ((tt, lit< tt), word_last _ refl)))))
    ) (cut (_ ∷ _ ∷ []) _ (sign_first (codes ",") 10 _ _
    refl refl (
    (lift 10 (SpellsLevel.prefixed (SpellsPrefixed.primary (SpellsPrimary.number (
      (tt, lit< tt),
      word_last _
          refl,
    )))))
    )) refl)) (sign_last (codes ")") 3 _ refl refl))) (sign_last (codes ";") 8 _ refl refl)))))
    SpellsStmts.no_more refl) (sign_last (codes "}") 1 _ refl refl) refl) (SpellsStmts.one_more {open_end = true} (_ ∷ _ ∷ _ ∷
    _ ∷ _ ∷ _ ∷ _ ∷ _ ∷ []) _ (SpellsStmt.without_else {open_end = false} (_ ∷ _ ∷ _ ∷ _ ∷ _ ∷ _ ∷ []) (_ ∷ _ ∷ [])
    (reserved_first (codes "if") 9 _ _ refl refl (sign_first (codes "(") 2 _ _ refl refl (cut (_ ∷ _ ∷ _ ∷ []) _ (
    (lift 3
    (SpellsLevel.binary Less (_ ∷ []) (_ ∷ []) (_ ∷ []) record { coded = refl; level_is = refl } (lift 7 (SpellsLevel.prefixed
    (SpellsPrefixed.primary (SpellsPrimary.name (name_last (codes "c") _ refl refl))))) (sign_last (codes "<") 6 _ refl refl)
    (lift 6 (SpellsLevel.prefixed (SpellsPrefixed.primary (SpellsPrimary.number ((tt, lit< tt), word_last _ refl))))) refl))
    ) (sign_last (codes ")") 3 _ refl refl)))) (SpellsBranch.in_brackets (_ ∷ []) ([]) (_ ∷ []) (sign_last (codes "{") 0
    _ refl refl) SpellsStmts.no_more (sign_last (codes "}") 1 _ refl refl) refl) refl) (SpellsStmts.one_more {open_end = true}
    (_ ∷ _ ∷ _ ∷ _ ∷ _ ∷ _ ∷ _ ∷ _ ∷ _ ∷ _ ∷ _ ∷ _ ∷ _ ∷ _ ∷ _ ∷ _ ∷ _ ∷ _ ∷ _ ∷ _ ∷ []) _ (SpellsStmt.without_else {open_end =
    false} (_ ∷ _ ∷ _ ∷ _ ∷ _ ∷ _ ∷ _ ∷ _ ∷ _ ∷ _ ∷ _ ∷ _ ∷ _ ∷ _ ∷ _ ∷ _ ∷ _ ∷ _ ∷ []) (_ ∷ _ ∷ []) (reserved_first (codes
    "if") 9 _ _ refl refl (sign_first (codes "(") 2 _ _ refl refl (cut (_ ∷ _ ∷ _ ∷ _ ∷ _ ∷ _ ∷ _ ∷ _ ∷ _ ∷ _ ∷ _ ∷ _ ∷ _ ∷ _ ∷
    _ ∷ []) _ (
    (SpellsLevel.binary Or (_ ∷ []) (_ ∷ []) (_ ∷ _ ∷ _ ∷ _ ∷ _ ∷ _ ∷ _ ∷ _ ∷ _ ∷ _ ∷ _ ∷ _ ∷ _ ∷ []) record {
      coded
          = refl;
      level_is = refl;
    } (lift 10 (SpellsLevel.prefixed (SpellsPrefixed.primary (SpellsPrimary.truth (reserved_last (codes
    "true") 21 _ refl refl))))) (sign_last (codes "||") 27 _ refl refl) (SpellsLevel.binary And (_ ∷ _ ∷ _ ∷ _ ∷ _ ∷ _ ∷ _ ∷
    []) (_ ∷ []) (_ ∷ _ ∷ _ ∷ _ ∷ _ ∷ []) record { coded = refl; level_is = refl } (SpellsLevel.binary And (_ ∷ []) (_ ∷ []) (_
    ∷ _ ∷ _ ∷ _ ∷ _ ∷ []) record { coded = refl; level_is = refl } (lift 9 (SpellsLevel.prefixed (SpellsPrefixed.primary
    (SpellsPrimary.truth (reserved_last (codes "false") 6 _ refl refl))))) (sign_last (codes "&&") 26 _ refl refl)
    (SpellsLevel.binary Differ (_ ∷ _ ∷ _ ∷ []) (_ ∷ []) (_ ∷ []) record { coded = refl; level_is = refl } (lift 8
    (SpellsLevel.prefixed (SpellsPrefixed.primary (SpellsPrimary.place (name_first (codes "meta") _ _ refl refl (sign_first
    (codes ".") 11 _ _ refl refl (name_first (codes "y") _ _ refl refl refl))))))) (sign_last (codes "!=") 23 _ refl refl)
    (lift 7 (SpellsLevel.prefixed (SpellsPrefixed.primary (SpellsPrimary.number ((tt, lit< tt), word_last _ refl))))) refl)
    refl) (sign_last (codes "&&") 26 _ refl refl) (lift 1 (SpellsLevel.binary AtMost (_ ∷ []) (_ ∷ []) (_ ∷ _ ∷ _ ∷ []) record
    { coded = refl; level_is = refl } (lift 7 (SpellsLevel.prefixed (SpellsPrefixed.primary (SpellsPrimary.number (
      (
        tt,
        lit<
            tt,
      ),
      word_last _ refl,
    ))))) (sign_last (codes "<=") 24 _ refl refl) (lift 6 (SpellsLevel.prefixed (SpellsPrefixed.primary
    (SpellsPrimary.place (name_first (codes "meta") _ _ refl refl (sign_first (codes ".") 11 _ _ refl refl (name_first (codes
    "y") _ _ refl refl refl))))))) refl)) refl) refl)
    ) (sign_last (codes ")") 3 _ refl refl))))
    (SpellsBranch.in_brackets (_ ∷ []) ([]) (_ ∷ []) (sign_last (codes "{") 0 _ refl refl) SpellsStmts.no_more (sign_last
    (codes "}") 1 _ refl refl) refl) refl) (SpellsStmts.one_more {open_end = true} (_ ∷ _ ∷ _ ∷ _ ∷ _ ∷ _ ∷ _ ∷ _ ∷ _ ∷ _ ∷ _ ∷
    _ ∷ _ ∷ _ ∷ _ ∷ _ ∷ _ ∷ _ ∷ _ ∷ _ ∷ _ ∷ _ ∷ _ ∷ _ ∷ _ ∷ _ ∷ _ ∷ _ ∷ _ ∷ _ ∷ _ ∷ _ ∷ _ ∷ _ ∷ _ ∷ []) _
    (SpellsStmt.without_else {open_end = false} (_ ∷ _ ∷ _ ∷ _ ∷ _ ∷ _ ∷ _ ∷ _ ∷ _ ∷ _ ∷ _ ∷ _ ∷ _ ∷ _ ∷ _ ∷ _ ∷ []) (_ ∷ _ ∷ _
    ∷ _ ∷ _ ∷ _ ∷ _ ∷ _ ∷ _ ∷ _ ∷ _ ∷ _ ∷ _ ∷ _ ∷ _ ∷ _ ∷ _ ∷ _ ∷ _ ∷ []) (reserved_first (codes "if") 9 _ _ refl refl
    (sign_first (codes "(") 2 _ _ refl refl (cut (_ ∷ _ ∷ _ ∷ _ ∷ _ ∷ _ ∷ _ ∷ _ ∷ _ ∷ _ ∷ _ ∷ _ ∷ _ ∷ []) _ (
    (SpellsLevel.binary Or (_ ∷ _ ∷ _ ∷ _ ∷ _ ∷ []) (_ ∷ []) (_ ∷ _ ∷ _ ∷ _ ∷ _ ∷ _ ∷ _ ∷ []) record {
      coded = refl;
      level_is
          = refl;
    } (lift 3 (SpellsLevel.binary AtLeast (_ ∷ _ ∷ _ ∷ []) (_ ∷ []) (_ ∷ []) record { coded = refl; level_is = refl }
    (lift 7 (SpellsLevel.prefixed (SpellsPrefixed.primary (SpellsPrimary.place (name_first (codes "meta") _ _ refl refl
    (sign_first (codes ".") 11 _ _ refl refl (name_first (codes "y") _ _ refl refl refl))))))) (sign_last (codes ">=") 25 _
    refl refl) (lift 6 (SpellsLevel.prefixed (SpellsPrefixed.primary (SpellsPrimary.number (
      (tt, lit< tt),
      word_last _
          refl,
    ))))) refl)) (sign_last (codes "||") 27 _ refl refl) (lift 2 (SpellsLevel.binary Greater (_ ∷ _ ∷ _ ∷ []) (_ ∷ []) (_ ∷
    _ ∷ _ ∷ []) record { coded = refl; level_is = refl } (lift 7 (SpellsLevel.prefixed (SpellsPrefixed.primary
    (SpellsPrimary.place (name_first (codes "meta") _ _ refl refl (sign_first (codes ".") 11 _ _ refl refl (name_first (codes
    "y") _ _ refl refl refl))))))) (sign_last (codes ">") 7 _ refl refl) (lift 6 (SpellsLevel.prefixed (SpellsPrefixed.primary
    (SpellsPrimary.place (name_first (codes "meta") _ _ refl refl (sign_first (codes ".") 11 _ _ refl refl (name_first (codes
    "y") _ _ refl refl refl))))))) refl)) refl)
    ) (sign_last (codes ")") 3 _ refl refl)))) (SpellsBranch.alone refl
    (SpellsStmt.with_else (_ ∷ _ ∷ _ ∷ _ ∷ _ ∷ _ ∷ []) (_ ∷ _ ∷ _ ∷ _ ∷ _ ∷ _ ∷ []) (_ ∷ []) (_ ∷ _ ∷ _ ∷ _ ∷ _ ∷ _ ∷ [])
    (reserved_first (codes "if") 9 _ _ refl refl (sign_first (codes "(") 2 _ _ refl refl (cut (_ ∷ _ ∷ _ ∷ []) _ (
    (lift 2
    (SpellsLevel.binary Equal (_ ∷ []) (_ ∷ []) (_ ∷ []) record { coded = refl; level_is = refl } (lift 8 (SpellsLevel.prefixed
    (SpellsPrefixed.primary (SpellsPrimary.name (name_last (codes "c") _ refl refl))))) (sign_last (codes "==") 22 _ refl refl)
    (lift 7 (SpellsLevel.prefixed (SpellsPrefixed.primary (SpellsPrimary.number ((tt, lit< tt), word_last _ refl))))) refl))
    ) (sign_last (codes ")") 3 _ refl refl)))) (SpellsBranch.alone refl (SpellsStmt.applied (name_first (codes "t") _ _
    refl refl (sign_first (codes ".") 11 _ _ refl refl (name_first (codes "apply") _ _ refl refl (cut (_ ∷ _ ∷ []) _
    (sign_first (codes "(") 2 _ _ refl refl (cut ([]) _ refl (sign_last (codes ")") 3 _ refl refl))) (sign_last (codes ";") 8 _
    refl refl))))))) (reserved_last (codes "else") 5 _ refl refl) (SpellsBranch.alone refl (SpellsStmt.applied (name_first
    (codes "u") _ _ refl refl (sign_first (codes ".") 11 _ _ refl refl (name_first (codes "apply") _ _ refl refl (cut (_ ∷ _ ∷
    []) _ (sign_first (codes "(") 2 _ _ refl refl (cut ([]) _ refl (sign_last (codes ")") 3 _ refl refl))) (sign_last (codes
    ";") 8 _ refl refl))))))) refl)) refl) (SpellsStmts.one_more {open_end = false} (_ ∷ _ ∷ _ ∷ _ ∷ _ ∷ _ ∷ _ ∷ _ ∷ _ ∷ _ ∷ _
    ∷ _ ∷ _ ∷ _ ∷ _ ∷ _ ∷ _ ∷ _ ∷ _ ∷ _ ∷ _ ∷ _ ∷ _ ∷ _ ∷ _ ∷ _ ∷ _ ∷ _ ∷ _ ∷ _ ∷ _ ∷ _ ∷ _ ∷ []) _ (SpellsStmt.block (_ ∷ _ ∷
    _ ∷ _ ∷ _ ∷ []) (_ ∷ []) (_ ∷ _ ∷ _ ∷ _ ∷ _ ∷ _ ∷ _ ∷ _ ∷ _ ∷ _ ∷ _ ∷ _ ∷ _ ∷ _ ∷ _ ∷ _ ∷ _ ∷ _ ∷ _ ∷ _ ∷ _ ∷ _ ∷ _ ∷ _ ∷ _
    ∷ _ ∷ []) (_ ∷ []) (
      lit< tt,
      (sign_first (codes "@") 30 _ _ refl refl (name_first (codes "stage") _ _ refl refl (sign_first
          (codes "(") 2 _ _ refl refl (cut (_ ∷ []) _ (word_last _ refl) (sign_last (codes ")") 3 _ refl refl))))),
    ) (sign_last (codes
    "{") 0 _ refl refl) (SpellsStmts.one_more {open_end = false} (_ ∷ _ ∷ _ ∷ _ ∷ _ ∷ _ ∷ _ ∷ _ ∷ _ ∷ _ ∷ _ ∷ _ ∷ _ ∷ _ ∷ _ ∷ _
    ∷ _ ∷ _ ∷ _ ∷ _ ∷ _ ∷ _ ∷ _ ∷ _ ∷ _ ∷ _ ∷ []) _ (SpellsStmt.simple (cut (_ ∷ _ ∷ _ ∷ []) _ (name_first (codes "meta") _ _
    refl refl (sign_first (codes ".") 11 _ _ refl refl (name_first (codes "y") _ _ refl refl refl))) (sign_first (codes "=") 12
    _ _ refl refl (cut (_ ∷ _ ∷ _ ∷ _ ∷ _ ∷ _ ∷ _ ∷ _ ∷ _ ∷ _ ∷ _ ∷ _ ∷ _ ∷ _ ∷ _ ∷ _ ∷ _ ∷ _ ∷ _ ∷ _ ∷ _ ∷ []) _ (
    (lift 7
    (SpellsLevel.binary ShiftDown (_ ∷ _ ∷ _ ∷ _ ∷ _ ∷ _ ∷ _ ∷ _ ∷ _ ∷ _ ∷ _ ∷ _ ∷ _ ∷ _ ∷ _ ∷ _ ∷ _ ∷ _ ∷ []) (_ ∷ _ ∷ []) (_
    ∷ []) record { coded = refl; level_is = refl } (lift 3 (SpellsLevel.prefixed (SpellsPrefixed.cast (_ ∷ _ ∷ _ ∷ _ ∷ _ ∷ _ ∷
    []) (_ ∷ _ ∷ _ ∷ _ ∷ _ ∷ _ ∷ _ ∷ _ ∷ _ ∷ _ ∷ _ ∷ _ ∷ []) (sign_first (codes "(") 2 _ _ refl refl (cut (_ ∷ _ ∷ _ ∷ _ ∷ [])
    _ (
      lit< tt,
      (reserved_first (codes "bit") 1 _ _ refl refl (sign_first (codes "<") 6 _ _ refl refl (word_first _ _ refl
          (sign_last (codes ">") 7 _ refl refl)))),
    ) (sign_last (codes ")") 3 _ refl refl))) (SpellsPrefixed.primary
    (SpellsPrimary.bracketed (_ ∷ []) (_ ∷ _ ∷ _ ∷ _ ∷ _ ∷ _ ∷ _ ∷ _ ∷ _ ∷ _ ∷ []) (_ ∷ []) (sign_last (codes "(") 2 _ refl
    refl) (lift 10 (SpellsLevel.prefixed (SpellsPrefixed.primary (SpellsPrimary.slice (_ ∷ _ ∷ _ ∷ _ ∷ _ ∷ []) (_ ∷ _ ∷ _ ∷ _ ∷
    _ ∷ []) (SpellsPrimary.place (cut (_ ∷ _ ∷ _ ∷ []) _ (name_first (codes "hdr") _ _ refl refl (sign_first (codes ".") 11 _ _
    refl refl (name_last (codes "h") _ refl refl))) (sign_first (codes ".") 11 _ _ refl refl (name_last (codes "v") _ refl
    refl)))) (
      (lit< tt, lit< tt),
      (sign_first (codes "[") 4 _ _ refl refl (cut (_ ∷ _ ∷ _ ∷ []) _ (word_first _ _ refl
          (sign_first (codes ":") 9 _ _ refl refl (word_last _ refl))) (sign_last (codes "]") 5 _ refl refl))),
    ) refl)))) (sign_last
    (codes ")") 3 _ refl refl) refl)) refl))) (touching _ _ refl refl refl refl refl) (lift 2 (SpellsLevel.prefixed
    (SpellsPrefixed.primary (SpellsPrimary.number ((tt, lit< tt), word_last _ refl))))) refl))
    ) (sign_last (codes ";")
    8 _ refl refl))))) SpellsStmts.no_more refl) (sign_last (codes "}") 1 _ refl refl) refl) SpellsStmts.no_more refl) refl)
    refl) refl) refl) refl) refl) (sign_last (codes "}") 1 _ refl refl))))) (sign_last (codes "}") 1 _ refl refl)))))) refl)

pub worked_end_spelled : SpellsProgram 3 worked_end_tree worked_end
worked_end_spelled =
    (cut (_ ∷ _ ∷ _ ∷ _ ∷ _ ∷ _ ∷ _ ∷ _ ∷ _ ∷ _ ∷ _ ∷ _ ∷ _ ∷ _ ∷ _ ∷ _ ∷ _ ∷ _ ∷ _ ∷ _ ∷ _ ∷ _ ∷ _ ∷ _ ∷ []) _ (reserved_first
    (codes "control") 3 _ _ refl refl (name_first (codes "D") _ _ refl refl (cut (_ ∷ _ ∷ _ ∷ _ ∷ _ ∷ _ ∷ _ ∷ _ ∷ []) _
    (sign_first (codes "(") 2 _ _ refl refl (cut (_ ∷ _ ∷ _ ∷ _ ∷ _ ∷ _ ∷ []) _ (name_first (codes "packet_out") _ _ refl refl
    (name_first (codes "pkt") _ _ refl refl (sign_first (codes ",") 10 _ _ refl refl (reserved_first (codes "in") 10 _ _ refl
    refl (name_first (codes "headers_t") _ _ refl refl (name_last (codes "hdr") _ refl refl)))))) (sign_last (codes ")") 3 _
    refl refl))) (sign_first (codes "{") 0 _ _ refl refl (cut (_ ∷ _ ∷ _ ∷ _ ∷ _ ∷ _ ∷ _ ∷ _ ∷ _ ∷ _ ∷ _ ∷ _ ∷ []) _
    (name_first (codes "apply") _ _ refl refl (sign_first (codes "{") 0 _ _ refl refl (cut (_ ∷ _ ∷ _ ∷ _ ∷ _ ∷ _ ∷ _ ∷ _ ∷ _ ∷
    []) _ (cut (_ ∷ _ ∷ _ ∷ _ ∷ _ ∷ _ ∷ _ ∷ _ ∷ _ ∷ []) _ (name_first (codes "pkt") _ _ refl refl (sign_first (codes ".") 11 _
    _ refl refl (name_first (codes "emit") _ _ refl refl (cut (_ ∷ _ ∷ _ ∷ _ ∷ _ ∷ []) _ (sign_first (codes "(") 2 _ _ refl
    refl (cut (_ ∷ _ ∷ _ ∷ []) _ (name_first (codes "hdr") _ _ refl refl (sign_first (codes ".") 11 _ _ refl refl (name_last
    (codes "h") _ refl refl))) (sign_last (codes ")") 3 _ refl refl))) (sign_last (codes ";") 8 _ refl refl))))) refl)
    (sign_last (codes "}") 1 _ refl refl)))) (sign_last (codes "}") 1 _ refl refl)))))) (cut (_ ∷ _ ∷ _ ∷ _ ∷ _ ∷ _ ∷ _ ∷ _ ∷ _
    ∷ _ ∷ _ ∷ _ ∷ _ ∷ _ ∷ _ ∷ _ ∷ []) _ (name_first (codes "Pisa") _ _ refl refl (cut (_ ∷ _ ∷ _ ∷ _ ∷ _ ∷ _ ∷ _ ∷ _ ∷ _ ∷ _ ∷
    _ ∷ _ ∷ _ ∷ []) _ (sign_first (codes "(") 2 _ _ refl refl (cut (_ ∷ _ ∷ _ ∷ _ ∷ _ ∷ _ ∷ _ ∷ _ ∷ _ ∷ _ ∷ _ ∷ []) _ (cut (_ ∷
    _ ∷ _ ∷ []) _ (name_first (codes "P") _ _ refl refl (sign_first (codes "(") 2 _ _ refl refl (cut ([]) _ refl (sign_last
    (codes ")") 3 _ refl refl)))) (sign_first (codes ",") 10 _ _ refl refl (cut (_ ∷ _ ∷ _ ∷ []) _ (name_first (codes "C") _ _
    refl refl (sign_first (codes "(") 2 _ _ refl refl (cut ([]) _ refl (sign_last (codes ")") 3 _ refl refl)))) (sign_first
    (codes ",") 10 _ _ refl refl (name_first (codes "D") _ _ refl refl (sign_first (codes "(") 2 _ _ refl refl (cut ([]) _ refl
    (sign_last (codes ")") 3 _ refl refl)))))))) (sign_last (codes ")") 3 _ refl refl))) (name_first (codes "main") _ _ refl
    refl (sign_last (codes ";") 8 _ refl refl)))) refl))
