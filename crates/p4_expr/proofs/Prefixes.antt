-- Which of the three forms an expression of level 0 has.
use Rattle.std.proofs.Common.{◌≡◌, ℕ, zero, suc, ◌+◌, ◌≤◌, List, [], ◌∷◌, ◌++◌, codes, drop, refl, subst, arith, inl, inr}
use Rattle.elastic_ast.specs.Tree.{PlainExpr}
use Rattle.elastic_ast.specs.declared.statements.Amount.{Amount}
use Rattle.elastic_ast.specs.OperatorSorts.{Operator, Turn, Negate, NoOperator}
use Rattle.spelling.specs.Words.{Word}
use Rattle.spelling.specs.Grammar.{Grammar, ◌⨟◌, IsSign, Begins}
use Rattle.spelling.specs.Reading.{Takes, MayTake}
use Rattle.spelling.proofs.Only.{begins_bracketed, begins_first, behind_first, ends_sign, not_sign, of_where, reserved_no_sign, split}
use Rattle.spelling.proofs.Taking.{may, takes_both}
use Rattle.p4_expr.specs.Operators.{IsOperator, SpellsOperator, level_of, operators_in}
use Rattle.p4_expr.specs.Parts.{SpellsCast}
use Rattle.p4_expr.specs.Expressions.{SpellsExpr, SpellsPrefixed, SpellsPrimary}
use Rattle.p4_expr.specs.Bases.{SpellsOwn, SpellsInBrackets, SpellsBase}
use Rattle.p4_expr.specs.Standing.{NoneStands, Passes, Stands, StandsCast}
use Rattle.p4_expr.proofs.FormWords.{name_no_sign, number_no_sign, own_first}
use Rattle.p4_expr.proofs.OperatorsAhead.{first_text, same_code, same_operator, stands_text}
use Rattle.p4_expr.proofs.LevelParts.{level_starts, prefixed_starts}
use Rattle.p4_expr.proofs.LevelSteps.{after_operator, stands_alone, stands_there}
use Rattle.p4_expr.proofs.Slices.{primary_starts}
use Rattle.p4_expr.proofs.SlicesLeft.{primary_ahead}
use Rattle.p4_expr.proofs.Starts.{IsPrimaryStart, IsStart, begins_taken, never_both}
use Rattle.p4_expr.proofs.StepsLeft.{no_opening}

by_derivation : (P : PlainExpr → Type 0) (depth : ℕ) (e : PlainExpr) (front a c : List Word) → a ≡ front ++ c → SpellsPrefixed depth e front → (MayTake (SpellsPrimary depth e) a c → P e) → ((op : ℕ) (of : PlainExpr) (operator : Operator) → IsOperator 0 op operator → MayTake (SpellsOperator operator ⨟ SpellsPrefixed depth of) a c → P (PlainExpr.Unary op of)) → ((width : ℕ) (of : PlainExpr) → MayTake (SpellsCast depth width ⨟ SpellsPrefixed depth of) a c → P (PlainExpr.Cast width of)) → P e
by_derivation P depth e front a c joined (SpellsPrefixed.primary h) primary unary cast = primary record { front = front; joined = joined; spelled = h }
by_derivation P depth e front a c joined (SpellsPrefixed.unary {op = op} {of = of} operator before behind is o h j) primary unary cast =
    unary op of operator is record { front = front; joined = joined; spelled = record { front = before; back = behind; joined = j; first = o; second = h } }
by_derivation P depth e front a c joined (SpellsPrefixed.cast {width = width} {of = of} before behind h o j) primary unary cast =
    cast width of record { front = front; joined = joined; spelled = record { front = before; back = behind; joined = j; first = h; second = o } }

prefixed_cases : (P : PlainExpr → Type 0) (depth : ℕ) (e : PlainExpr) {a c : List Word} → MayTake (SpellsPrefixed depth e) a c → (MayTake (SpellsPrimary depth e) a c → P e) → ((op : ℕ) (of : PlainExpr) (operator : Operator) → IsOperator 0 op operator → MayTake (SpellsOperator operator ⨟ SpellsPrefixed depth of) a c → P (PlainExpr.Unary op of)) → ((width : ℕ) (of : PlainExpr) → MayTake (SpellsCast depth width ⨟ SpellsPrefixed depth of) a c → P (PlainExpr.Cast width of)) → P e
prefixed_cases P depth e {a = a} {c = c} m primary unary cast = by_derivation P depth e m.front a c m.joined m.spelled primary unary cast

-- a primary expression begins with no prefix
prefix_no_primary : (operator : Operator) (a : List Word) → level_of operator ≡ 0 → Stands operator a → Begins IsPrimaryStart a → ⊥
prefix_no_primary Turn a at s p = never_both a (λ word is start. start.no_turn is) s p
prefix_no_primary Negate a at s p = never_both a (λ word is start. start.no_negate is) s p
prefix_no_primary NoOperator a at s p = s
prefix_no_primary _ a at s p = absurd (omega (arith, at))

cast_begins : (depth width : ℕ) {Q : Grammar} {a c : List Word} → MayTake (SpellsCast depth width ⨟ Q) a c → Begins (IsSign (codes "(")) a
cast_begins depth width m = begins_bracketed _ _ depth _ (split m).first

operator_no_cast : (operator : Operator) (a : List Word) → Stands operator a → Begins (IsSign (codes "(")) a → ⊥
operator_no_cast operator a s b = (ends_sign (codes "[" ∷ codes "." ∷ codes "(" ∷ []) (first_text operator) a (no_opening operator) (stands_text operator a s)).1.1.0 b

-- where a prefix was passed, its operand follows
pub prefix_passed : (P : PlainExpr → Type 0) (depth code : ℕ) (e : PlainExpr) {a b c : List Word} → MayTake (SpellsPrefixed depth e) a c → Passes 0 code a b → ((of : PlainExpr) → MayTake (SpellsPrefixed depth of) b c → P (PlainExpr.Unary code of)) → P e
prefix_passed P depth code e {a = a} {b = b} {c = c} m p next =
    let stands = stands_there p.operator (may p.takes) in
    prefixed_cases P depth e m
    (λ n. absurd (prefix_no_primary p.operator a p.is.level_is stands (begins_taken IsPrimaryStart (SpellsPrimary depth e) (primary_starts depth e) n)))
    (λ op of operator is n.
    let s = split n in
    let alone = stands_alone operator IsStart s.first (begins_taken IsStart (SpellsPrefixed depth of) (prefixed_starts depth of) s.second) (λ word start. start.no_angle) in
    let le : level_of p.operator ≤ level_of operator = (let i = p.is.level_is in let j = is.level_is in omega (arith, i, j)) in
    let same = same_operator p.operator operator a le stands alone in
    let coded = same_code 0 code op p.operator operator same p.is is in
    subst (λ o. P (PlainExpr.Unary o of)) coded (next of (after_operator operator (SpellsPrefixed depth of) a b c (subst (λ o. Takes (SpellsOperator o) a b) same p.takes) n)))
    (λ width of n. absurd (operator_no_cast p.operator a stands (cast_begins depth width n)))

cast_stands : (depth width : ℕ) {Q : Grammar} {a c : List Word} → MayTake (SpellsCast depth width ⨟ Q) a c → StandsCast a
cast_stands zero width m = absurd (split m).first.spelled
cast_stands (suc depth) width m =
    let s = split m in
    let inner = split (behind_first s.first) in
    (begins_first s.first, begins_first (of_where inner.first))

own_no_opening : (depth : ℕ) (e : PlainExpr) {a c : List Word} → MayTake (SpellsOwn depth e) a c → Begins (IsSign (codes "(")) a → ⊥
own_no_opening depth e {a = a} m b =
    own_first (λ _. ⊥) depth e m
    (λ n. number_no_sign (codes "(") a n b)
    (λ t. elim t [ inl r ↦ not_sign (codes "(") a (λ word k. reserved_no_sign word.kind k.0) r b | inr r ↦ not_sign (codes "(") a (λ word k. reserved_no_sign word.kind k.0) r b ])
    (λ n. name_no_sign (codes "(") a n b)

brackets_no_cast : (depth : ℕ) (e : PlainExpr) {a c : List Word} → MayTake (SpellsInBrackets depth e) a c → StandsCast a → ⊥
brackets_no_cast zero e m s = m.spelled
brackets_no_cast (suc depth) e {a = a} m s =
    let inner = split (behind_first m) in
    never_both (drop 1 a) (λ word start is. start.no_bit is) (begins_taken IsStart (SpellsExpr depth e) (λ ws h. level_starts h) inner.first) s.1

base_no_cast : (depth : ℕ) (e : PlainExpr) (front a c : List Word) → a ≡ front ++ c → SpellsBase depth e front → StandsCast a → ⊥
base_no_cast depth e front a c joined (inl h) s =
    let m : MayTake (SpellsOwn depth e) a c = record { front = front; joined = joined; spelled = h } in own_no_opening depth e m s.0
base_no_cast depth e front a c joined (inr h) s =
    let m : MayTake (SpellsInBrackets depth e) a c = record { front = front; joined = joined; spelled = h } in brackets_no_cast depth e m s

primary_no_cast : (depth : ℕ) (e : PlainExpr) {a c : List Word} → MayTake (SpellsPrimary depth e) a c → StandsCast a → ⊥
primary_no_cast depth e {a = a} m s =
    let p = primary_ahead depth e m in
    let b = split p.ahead in
    base_no_cast depth p.first b.first.front a b.between b.first.joined b.first.spelled s

-- where neither a prefix nor a cast stands
pub no_prefix : (depth : ℕ) (e : PlainExpr) {a c : List Word} → MayTake (SpellsPrefixed depth e) a c → NoneStands 0 a → (StandsCast a → ⊥) → MayTake (SpellsPrimary depth e) a c
no_prefix depth e {a = a} {c = c} m none no_cast =
    prefixed_cases (λ x. MayTake (SpellsPrimary depth x) a c) depth e m
    (λ n. n)
    (λ op of operator is n. absurd (none operator is.level_is (stands_there operator (split n).first)))
    (λ width of n. absurd (no_cast (cast_stands depth width n)))

-- where a cast stands
pub cast_there : (P : PlainExpr → Type 0) (depth : ℕ) (e : PlainExpr) {a c : List Word} → MayTake (SpellsPrefixed depth e) a c → NoneStands 0 a → StandsCast a → ((width : ℕ) (of : PlainExpr) → MayTake (SpellsCast depth width ⨟ SpellsPrefixed depth of) a c → P (PlainExpr.Cast width of)) → P e
cast_there P depth e m none stands next =
    prefixed_cases P depth e m
    (λ n. absurd (primary_no_cast depth e n stands))
    (λ op of operator is n. absurd (none operator is.level_is (stands_there operator (split n).first)))
    (λ width of n. next width of n)

pub unary_count : (op : ℕ) (of : PlainExpr) → operators_in (PlainExpr.Unary op of) ≡ operators_in of + 1
unfolding operators_in
unary_count op of = refl

pub cast_count : (width : ℕ) (of : PlainExpr) → operators_in (PlainExpr.Cast width of) ≡ operators_in of + 1
unfolding operators_in
cast_count width of = refl

pub hash_count : (number : Amount) (of : PlainExpr) (modulus : Amount) → operators_in (PlainExpr.Hash number of modulus) ≡ operators_in of + 1
unfolding operators_in
hash_count number of modulus = refl

pub takes_unary : (depth code : ℕ) (of : PlainExpr) {a b c : List Word} → Passes 0 code a b → Takes (SpellsPrefixed depth of) b c → Takes (SpellsPrefixed depth (PlainExpr.Unary code of)) a c
takes_unary depth code of p t =
    let both = takes_both p.takes t in
    let s = both.spelled in
    record { front = both.front; joined = both.joined; spelled = SpellsPrefixed.unary p.operator s.front s.back p.is s.first s.second s.joined; fewer = both.fewer }

pub takes_cast : (depth width : ℕ) (of : PlainExpr) {a b c : List Word} → Takes (SpellsCast depth width) a b → Takes (SpellsPrefixed depth of) b c → Takes (SpellsPrefixed depth (PlainExpr.Cast width of)) a c
takes_cast depth width of u t =
    let both = takes_both u t in
    let s = both.spelled in
    record { front = both.front; joined = both.joined; spelled = SpellsPrefixed.cast s.front s.back s.first s.second s.joined; fewer = both.fewer }
