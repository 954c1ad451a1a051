-- Which operator stands first.
use Rattle.std.proofs.Common.{◌≡◌, ℕ, zero, suc, ◌+◌, ◌≤◌, Bool, true, false, bytes_eq, cond, List, Some, None, [], ◌∷◌, codes, refl, sym, ap, subst, ◌∙◌, arith, inl, inr, ◌⊎◌}
use Rattle.std.specs.Prelude.{slice_get}
use Rattle.elastic_ast.specs.OperatorSorts.{Operator, Greater, ShiftDown, NoOperator, operators, operator_code}
use Rattle.spelling.specs.Words.{Word}
use Rattle.spelling.specs.Grammar.{IsSign, Begins, BeginTouching}
use Rattle.spelling.proofs.Only.{begins_both}
use Rattle.p4_expr.specs.Operators.{IsOperator, level_of, text_of}
use Rattle.p4_expr.specs.Standing.{Stands}

-- the text of an operator's first sign
abbrev pub first_text : Operator → List ℕ
first_text ShiftDown = codes ">"
first_text operator = text_of operator

-- the operator whose first sign has a text; `>>` isn't found, as `>` comes first
find_text : List ℕ → List Operator → Operator
find_text text [] = NoOperator
find_text text (operator ∷ more) = cond (bytes_eq (first_text operator) text) operator (find_text text more)

is_shift_down : Operator → Bool
is_shift_down ShiftDown = true
is_shift_down _ = false

found : (operator : Operator) → is_shift_down operator ≡ false → find_text (first_text operator) operators ≡ operator
unfolding find_text is_shift_down
found ShiftDown h = let e : true ≡ false = h in absurd cc
found _ h = refl

pub touching_first : (F G : Word → Type 0) (ws : List Word) → BeginTouching F G ws → Begins F ws
touching_first F G [] b = b
touching_first F G (one ∷ []) b = absurd b
touching_first F G (one ∷ other ∷ ws) b = b.0

pub stands_text : (operator : Operator) (ws : List Word) → Stands operator ws → Begins (IsSign (first_text operator)) ws
stands_text ShiftDown ws h = touching_first _ _ ws h
stands_text NoOperator ws h = absurd h
stands_text _ ws h = h

-- an operator stands first, and a lone `>` isn't half of a shift
pub record StandsAlone (operator : Operator) (ws : List Word) : Type 0 where
  pub stands : Stands operator ws
  pub alone : operator ≡ Greater → BeginTouching (IsSign (codes ">")) (IsSign (codes ">")) ws → ⊥

one_text : (s t : List ℕ) (ws : List Word) → Begins (IsSign s) ws → Begins (IsSign t) ws → s ≡ t
one_text s t ws f g = let b = begins_both ws f g in sym b.1.1 ∙ b.2.1

plain_same : (operator other : Operator) (ws : List Word) → is_shift_down operator ≡ false → is_shift_down other ≡ false → Stands operator ws → Stands other ws → operator ≡ other
plain_same operator other ws p q f g =
    sym (found operator p) ∙ ap (λ text. find_text text operators) (one_text _ _ ws (stands_text operator ws f) (stands_text other ws g)) ∙ found other q

which_shift : (operator : Operator) → (operator ≡ ShiftDown) ⊎ (is_shift_down operator ≡ false)
unfolding is_shift_down
which_shift ShiftDown = inl refl
which_shift _ = inr refl

-- what stands where `>` does is `>`, unless it is a shift
angle_is_greater : (operator : Operator) (ws : List Word) → is_shift_down operator ≡ false → Stands operator ws → Begins (IsSign (codes ">")) ws → operator ≡ Greater
unfolding find_text
angle_is_greater operator ws p f b = sym (found operator p) ∙ ap (λ text. find_text text operators) (one_text _ _ ws (stands_text operator ws f) b)

shift_touches : (o : Operator) (ws : List Word) → o ≡ ShiftDown → Stands o ws → BeginTouching (IsSign (codes ">")) (IsSign (codes ">")) ws
shift_touches o ws is s = subst (λ p. Stands p ws) is s

-- of the operators of a level and of those that are stronger only the one stands where it stands alone
pub same_operator : (operator other : Operator) (ws : List Word) → level_of operator ≤ level_of other → Stands operator ws → StandsAlone other ws → operator ≡ other
same_operator operator other ws le s a =
    elim (which_shift operator) [
      | inl p ↦
          (let touch = shift_touches operator ws p s in
          elim (which_shift other) [
            | inl q ↦ p ∙ sym q
            | inr q ↦ absurd (a.alone (angle_is_greater other ws q a.stands (touching_first _ _ ws touch)) touch)
          ])
      | inr p ↦
          elim (which_shift other) [
            | inl q ↦
                (let touch = shift_touches other ws q a.stands in
                let is = ap level_of (angle_is_greater operator ws p s (touching_first _ _ ws touch)) in
                let at = ap level_of q in
                absurd (omega (arith, le, is, at)))
            | inr q ↦ plain_same operator other ws p q s a.stands
          ]
    ]

some_same : {A : Type 0} (x y : A) → Some x ≡ Some y → x ≡ y
some_same x y h = cc

-- the codes of a list of operators, counted from a number on
abbrev CodesFrom : ℕ → List Operator → Type 0
CodesFrom n [] = Unit {0}
CodesFrom n (operator ∷ more) = (operator_code operator ≡ n) × CodesFrom (n + 1) more

code_from : (n : ℕ) (table : List Operator) → CodesFrom n table → (code : ℕ) (operator : Operator) → slice_get table code ≡ Some operator → operator_code operator ≡ n + code
code_from n [] c code operator h = absurd (let e : None ≡ Some operator = h in cc)
code_from n (first ∷ more) c zero operator h = let same = ap operator_code (some_same first operator h) in let at = c.0 in omega (arith, same, at)
code_from n (first ∷ more) c (suc code) operator h = let rec = code_from (n + 1) more c.1 code operator h in omega (arith, rec)

pub code_is : (code : ℕ) (operator : Operator) → slice_get operators code ≡ Some operator → operator_code operator ≡ code
code_is code operator h =
    let codes : CodesFrom 0 operators = (refl, (refl, (refl, (refl, (refl, (refl, (refl, (refl, (refl, (refl, (refl, (refl, (refl, (refl, (refl, (refl, (refl, (refl, (refl, tt))))))))))))))))))) in
    let is = code_from 0 operators codes code operator h in omega (arith, is)

pub same_code : (level one other : ℕ) (operator second : Operator) → operator ≡ second → IsOperator level one operator → IsOperator level other second → one ≡ other
same_code level one other operator second same i j = sym (code_is one operator i.coded) ∙ ap operator_code same ∙ code_is other second j.coded
