-- Where an expression passes one of its two numbers: behind an operand, an operator or a bracket.
use Rattle.std.proofs.Common.{◌≡◌, ℕ, ◌+◌, ◌<◌, Bool, true, false, List, [], ◌++◌, codes, refl, ap, sym, subst, ◌∙◌, append_assoc, append-nil, arith, inl, inr}
use Rattle.elastic_ast.specs.Tree.{PlainExpr}
use Rattle.elastic_ast.specs.declared.statements.Amount.{Amount}
use Rattle.spelling.specs.Words.{Word}
use Rattle.spelling.specs.Grammar.{◌⨟◌, Named, Sign}
use Rattle.spelling.specs.Reading.{Takes, MayTake}
use Rattle.spelling.specs.Bounds.{Line, OpensNext, Stops}
use Rattle.spelling.proofs.Bounds.{in_both, in_line, in_named, in_sign, join, line_both, line_open, line_then, stop_past}
use Rattle.spelling.proofs.Balance.{stays_both, stays_named, stays_sign}
use Rattle.spelling.proofs.Taking.{may, may_both}
use Rattle.p4_expr.specs.Operators.{SpellsOperator, level_of, operators_in}
use Rattle.p4_expr.specs.Parts.{SpellsAmount, SpellsCast}
use Rattle.p4_expr.specs.Expressions.{SpellsLevel, SpellsPrefixed, SpellsPrimary}
use Rattle.p4_expr.specs.Standing.{Passes}
use Rattle.p4_expr.specs.Passing.{Begun, BeginsOperator, OperatorsPassed, ExprPassed}
use Rattle.p4_expr.proofs.ExprWithin.{level_within}
use Rattle.p4_expr.proofs.InLines.{amount_in_line, cast_in_line, level_line, operator_in_line}
use Rattle.p4_expr.proofs.PartsWithin.{amount_stays, cast_stays, operator_stays}
use Rattle.p4_expr.proofs.Prefixes.{cast_count, unary_count}
use Rattle.p4_expr.proofs.StepsLeft.{binary_count}

-- an expression that goes on with another
begun_then : {ended : Bool} {n : ℕ} {back : List Word} (m : ℕ) (front : List Word) → Begun false m front → Begun ended n back → Begun ended (m + n) (front ++ back)
begun_then m front b Begun.nothing =
    let same : m ≡ m + 0 = omega arith in
    subst (λ k. Begun false k (front ++ [])) same (subst (Begun false m) (sym (append-nil front)) b)
begun_then m front b (Begun.bracket f l h s e) = Begun.bracket (front ++ f) l (begun_then m front b h) s (ap (λ ws. front ++ ws) e ∙ sym (append_assoc front f l))
begun_then m front b (Begun.unary {count = n} {ws = ws} operator f l is h s e) =
    let same : (m + n) + 1 ≡ m + (n + 1) = omega arith in
    subst (λ k. Begun false k (front ++ ws)) same (Begun.unary operator (front ++ f) l is (begun_then m front b h) s (ap (λ ws. front ++ ws) e ∙ sym (append_assoc front f l)))
begun_then m front b (Begun.cast {count = n} {ws = ws} depth width f l h s e) =
    let same : (m + n) + 1 ≡ m + (n + 1) = omega arith in
    subst (λ k. Begun false k (front ++ ws)) same (Begun.cast depth width (front ++ f) l (begun_then m front b h) s (ap (λ ws. front ++ ws) e ∙ sym (append_assoc front f l)))
begun_then m front b (Begun.hash {count = n} {ws = ws} number f l h s e) =
    let same : (m + n) + 1 ≡ m + (n + 1) = omega arith in
    subst (λ k. Begun false k (front ++ ws)) same (Begun.hash number (front ++ f) l (begun_then m front b h) s (ap (λ ws. front ++ ws) e ∙ sym (append_assoc front f l)))
begun_then m front b (Begun.operand {count = n} {e = x} {ws = ws} f l h s e) =
    let same : (m + n) + operators_in x ≡ m + (n + operators_in x) = omega arith in
    subst (λ k. Begun true k (front ++ ws)) same (Begun.operand (front ++ f) l (begun_then m front b h) s (ap (λ ws. front ++ ws) e ∙ sym (append_assoc front f l)))
begun_then m front b (Begun.binary {count = n} {ws = ws} operator f l above h s e) =
    let same : (m + n) + 1 ≡ m + (n + 1) = omega arith in
    subst (λ k. Begun false k (front ++ ws)) same (Begun.binary operator (front ++ f) l above (begun_then m front b h) s (ap (λ ws. front ++ ws) e ∙ sym (append_assoc front f l)))

-- a whole one is an operand with what stands before it
mutual
  level_ended : {depth level : ℕ} {e : PlainExpr} {ws : List Word} (m : ℕ) (front : List Word) → Begun false m front → SpellsLevel depth level e ws → Begun true (m + operators_in e) (front ++ ws)
  level_ended m front b (SpellsLevel.prefixed h) = prefixed_ended m front b h
  level_ended m front b (SpellsLevel.stronger h) = level_ended m front b h
  level_ended m front b (SpellsLevel.binary {level = level} {op = op} {left = left} {right = right} {ws = ws} operator f s l is first sign second e) =
      let above : 0 < level_of operator = let at = is.level_is in omega (arith, at) in
      let one = Begun.binary operator (front ++ f) s above (level_ended m front b first) sign refl in
      let both = level_ended ((m + operators_in left) + 1) ((front ++ f) ++ s) one second in
      let count = binary_count op left right in
      let same : ((m + operators_in left) + 1) + operators_in right ≡ m + operators_in (PlainExpr.Binary op left right) = omega (arith, count) in
      let joined : ((front ++ f) ++ s) ++ l ≡ front ++ ws = ap (λ a. a ++ l) (append_assoc front f s) ∙ append_assoc front (f ++ s) l ∙ ap (λ a. front ++ a) (sym e) in
      subst (λ k. Begun true k (front ++ ws)) same (subst (Begun true (((m + operators_in left) + 1) + operators_in right)) joined both)

  prefixed_ended : {depth : ℕ} {e : PlainExpr} {ws : List Word} (m : ℕ) (front : List Word) → Begun false m front → SpellsPrefixed depth e ws → Begun true (m + operators_in e) (front ++ ws)
  prefixed_ended {ws = ws} m front b (SpellsPrefixed.primary h) = Begun.operand front ws b h refl
  prefixed_ended m front b (SpellsPrefixed.unary {op = op} {of = of} {ws = ws} operator f l is sign h e) =
      let one = Begun.unary operator front f is.level_is b sign refl in
      let both = prefixed_ended (m + 1) (front ++ f) one h in
      let count = unary_count op of in
      let same : (m + 1) + operators_in of ≡ m + operators_in (PlainExpr.Unary op of) = omega (arith, count) in
      subst (λ k. Begun true k (front ++ ws)) same (subst (Begun true ((m + 1) + operators_in of)) (append_assoc front f l ∙ ap (λ a. front ++ a) (sym e)) both)
  prefixed_ended {depth = depth} m front b (SpellsPrefixed.cast {width = width} {of = of} {ws = ws} f l c h e) =
      let one = Begun.cast depth width front f b c refl in
      let both = prefixed_ended (m + 1) (front ++ f) one h in
      let count = cast_count width of in
      let same : (m + 1) + operators_in of ≡ m + operators_in (PlainExpr.Cast width of) = omega (arith, count) in
      subst (λ k. Begun true k (front ++ ws)) same (subst (Begun true ((m + 1) + operators_in of)) (append_assoc front f l ∙ ap (λ a. front ++ a) (sym e)) both)

whole_ended : {depth level : ℕ} {e : PlainExpr} {ws : List Word} → SpellsLevel depth level e ws → Begun true (operators_in e) ws
whole_ended {e = e} {ws = ws} h =
    let same : 0 + operators_in e ≡ operators_in e = omega arith in
    subst (λ k. Begun true k ws) same (level_ended 0 [] Begun.nothing h)

-- what stands between two places of an expression: words in one line with so many brackets open, and so many operators
pub record Between (brackets operators : ℕ) (a b : List Word) : Type 0 where
  pub line : MayTake (Line brackets) a b
  pub begun : MayTake (Begun false operators) a b

-- behind it
pub expr_past : (depth left brackets operators inner fewer : ℕ) {a b c : List Word} → depth ≡ brackets + inner → left ≡ operators + fewer → Between brackets operators a b → ExprPassed inner fewer b c → ExprPassed depth left a c
expr_past depth left brackets operators inner fewer {a = a} {c = c} d l w (inl s) = inl (subst (λ n. Stops (Line n) OpensNext a c) (sym d) (stop_past (line_both brackets inner) w.line s))
expr_past depth left brackets operators inner fewer {a = a} {c = c} d l w (inr p) =
    let m = w.begun in
    inr
    (subst (λ n. OperatorsPassed n a c) (sym l) record {
      front = m.front ++ p.front;
      joined = m.joined ∙ ap (λ ws. m.front ++ ws) p.joined ∙ sym (append_assoc m.front p.front c);
      ended = p.ended;
      begun = begun_then operators m.front m.spelled p.begun;
      next = p.next;
    })

-- an operator that is one too many: behind an operand, or first
pub operand_passed : (left used : ℕ) (depth level : ℕ) (e : PlainExpr) {a c : List Word} → left ≡ operators_in e → Takes (SpellsLevel depth level e) a c → BeginsOperator true c → ExprPassed used left a c
operand_passed left used depth level e {a = a} {c = c} is t next =
    inr
    (subst (λ n. OperatorsPassed n a c) (sym is) record {
      front = t.front;
      joined = t.joined;
      ended = true;
      begun = whole_ended t.spelled;
      next = next;
    })

pub first_passed : (left depth : ℕ) (a : List Word) → left ≡ 0 → BeginsOperator false a → ExprPassed depth left a a
first_passed left depth a is next = inr (subst (λ n. OperatorsPassed n a a) (sym is) record { front = []; joined = refl; ended = false; begun = Begun.nothing; next = next })

pub primary_passed : (left used depth : ℕ) (e : PlainExpr) {a c : List Word} → left ≡ operators_in e → Takes (SpellsPrimary depth e) a c → BeginsOperator true c → ExprPassed used left a c
primary_passed left used depth e is t next = operand_passed left used depth 0 e is record { front = t.front; joined = t.joined; spelled = SpellsLevel.prefixed (SpellsPrefixed.primary t.spelled); fewer = t.fewer } next

-- behind a binary operator
pub behind_operator : (depth level at code : ℕ) (e : PlainExpr) {a b c : List Word} → 0 < at → Takes (SpellsLevel depth level e) a b → Passes at code b c → Between 0 (operators_in e + 1) a c
behind_operator depth level at code e above t p =
    let o = p.operator in
    let higher : 0 < level_of o = let same = p.is.level_is in omega (arith, same, above) in
    let m = may_both (may t) (may p.takes) in
    record {
      line = in_line {Of = SpellsLevel depth level e ⨟ SpellsOperator o} depth (stays_both (λ ws h. level_within h) (operator_stays o)) (in_both (level_line depth level e) (operator_in_line o)) m;
      begun = join {P = SpellsLevel depth level e} {Q = SpellsOperator o} (λ front back h s. Begun.binary o front back higher (whole_ended h) s refl) (may t) (may p.takes);
    }

-- behind a prefixed operator
pub behind_prefix : (code : ℕ) {a b : List Word} → Passes 0 code a b → Between 0 1 a b
behind_prefix code p =
    let o = p.operator in
    let m = may p.takes in
    record {
      line = in_line {Of = SpellsOperator o} 0 (operator_stays o) (operator_in_line o) m;
      begun = record { front = m.front; joined = m.joined; spelled = Begun.unary o [] m.front p.is.level_is Begun.nothing m.spelled refl };
    }

-- behind a cast
pub behind_cast : (depth width : ℕ) {a b : List Word} → Takes (SpellsCast depth width) a b → Between 0 1 a b
behind_cast depth width t =
    let m = may t in
    record {
      line = in_line {Of = SpellsCast depth width} depth (cast_stays depth width) (cast_in_line depth width) m;
      begun = record { front = m.front; joined = m.joined; spelled = Begun.cast depth width [] m.front Begun.nothing m.spelled refl };
    }

-- behind an opening bracket
pub behind_bracket : {a b : List Word} → Takes (Sign (codes "(")) a b → Between 1 0 a b
behind_bracket t =
    let m = may t in
    record {
      line = line_open (codes "(") refl (in_sign (codes "(") refl refl refl) m;
      begun = record { front = m.front; joined = m.joined; spelled = Begun.bracket [] m.front Begun.nothing m.spelled refl };
    }

-- behind the first number of a hash
pub behind_hash : (number : Amount) {a b c d : List Word} → Takes (Named (codes "hash")) a b → Takes (Sign (codes "(")) b c → Takes (SpellsAmount number ⨟ Sign (codes ",")) c d → Between 1 1 a d
behind_hash number n o t =
    let m = may_both (may n) (may_both (may o) (may t)) in
    let name = in_line {Of = Named (codes "hash")} 0 (stays_named (codes "hash")) (in_named (codes "hash")) (may n) in
    let bracket = line_open (codes "(") refl (in_sign (codes "(") refl refl refl) (may o) in
    let amount = in_line {Of = SpellsAmount number ⨟ Sign (codes ",")} 0 (stays_both (amount_stays number) (stays_sign (codes ",") refl refl)) (in_both (amount_in_line number) (in_sign (codes ",") refl refl refl)) (may t) in
    record {
      line = line_then 0 1 name (line_then 1 0 bracket amount);
      begun = record { front = m.front; joined = m.joined; spelled = Begun.hash number [] m.front Begun.nothing m.spelled refl };
    }

-- what stands before the place
pub passed_front : {depth left : ℕ} {a c : List Word} → ExprPassed depth left a c → (front : List Word) × (a ≡ front ++ c)
passed_front (inl s) = (s.front, s.joined)
passed_front (inr p) = (p.front, p.joined)
