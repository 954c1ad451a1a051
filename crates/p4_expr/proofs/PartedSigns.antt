-- Two signs `>` with a space between them are no operator.
use Rattle.std.proofs.Common.{◌≡◌, ℕ, List, [], ◌∷◌, drop, take, sym, ap, ◌∙◌, arith}
use Rattle.spelling.specs.Words.{Word}
use Rattle.spelling.specs.Grammar.{One, Sign, TwoTouching}
use Rattle.elastic_ast.specs.OperatorSorts.{Operator, ShiftDown, NoOperator}
use Rattle.p4_expr.specs.Operators.{SpellsOperator}
use Rattle.p4_expr.specs.Examples.{parted_shift}

pub not_one : (P : Word → Type 0) (a b : Word) → One P (a ∷ b ∷ []) → ⊥
not_one P a b h = let e : a ∷ b ∷ [] ≡ h.word ∷ [] = h.alone in cc

pub ends_there : (P Q : Word → Type 0) (a b : Word) → TwoTouching P Q (a ∷ b ∷ []) → a.end ≡ b.at
ends_there P Q a b h =
    let e : a ∷ b ∷ [] ≡ h.one ∷ h.other ∷ [] = h.both in
    let one : a ≡ h.one = cc in
    let other : b ≡ h.other = cc in
    ap (λ w. w.end) one ∙ h.touch ∙ ap (λ w. w.at) (sym other)

pub three_is_not_four : let three : ℕ = 3 in three ≡ 4 → ⊥
three_is_not_four h = omega arith

pub not_sign : (text : List ℕ) → Sign text (take 2 (drop 1 parted_shift)) → ⊥
not_sign text h = not_one _ _ _ h

pub not_operator : (operator : Operator) → SpellsOperator operator (take 2 (drop 1 parted_shift)) → ⊥
not_operator ShiftDown h = three_is_not_four (ends_there _ _ _ _ h)
not_operator NoOperator h = absurd h
not_operator _ h = not_sign _ h
