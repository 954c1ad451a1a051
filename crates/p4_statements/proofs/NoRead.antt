-- No expression begins as a read of a register does.
use Rattle.spelling.proofs.Limits.{inside}
use Rattle.std.proofs.Common.{◌≡◌, ℕ, zero, suc, Bool, true, false, List, ◌∷◌, ◌++◌, drop, Some, None, codes, bytes_eq, refl, sym, ap, subst, ◌∙◌, inl, inr, append_assoc}
use Rattle.p4_lexer.specs.declared.token.Kind.TheVariants as kind
use Rattle.elastic_ast.specs.declared.statements.Lval.{Lval}
use Rattle.elastic_ast.specs.declared.statements.Lval.TheVariants as lval
use Rattle.elastic_ast.specs.OperatorSorts.{Operator, ShiftDown, NoOperator}
use Rattle.elastic_ast.specs.Tree.{Name, PlainExpr}
use Rattle.spelling.specs.Words.{Word}
use Rattle.spelling.specs.Grammar.{Grammar, ◌⨟◌, Named, Sign, TwoTouching, Begins, IsSign, is_reserved, is_sign}
use Rattle.spelling.specs.Reading.{MayTake}
use Rattle.spelling.proofs.Only.{alone, begins, begins_both, begins_bracketed, begins_first, behind_first, empty_same, no_sign, of_where, opened, regroup, split}
use Rattle.spelling.proofs.Taking.{may_both}
use Rattle.p4_expr.specs.Parts.{SpellsBitRange, SpellsCast, SpellsHeader, SpellsIsValid, SpellsLval, SpellsNumber, SpellsTruth}
use Rattle.p4_expr.specs.Operators.{SpellsOperator, text_of, weakest}
use Rattle.p4_expr.specs.Expressions.{SpellsLevel, SpellsPrefixed, SpellsPrimary, SpellsExpr, prefixed, stronger, binary, primary, unary, cast, number, name, truth, place, is_valid, bracketed, hash, slice}
use Rattle.p4_expr.specs.GoesOn.{EndsIndex}
use Rattle.p4_expr.proofs.PartSpelling.{ends_index, name_no_number, number_there}
use Rattle.p4_statements.specs.Reading.{IsReadAhead}
use Rattle.p4_statements.proofs.Ahead.{at_third, earlier_word}

-- nothing follows that goes on with a place or a call
pub record Quiet (ws : List Word) : Type 0 where
  pub no_dot : Begins (IsSign (codes ".")) ws → ⊥
  pub no_call : Begins (IsSign (codes "(")) ws → ⊥
  pub no_index : EndsIndex ws

quiet_sign : (sign : List ℕ) {ws : List Word} → bytes_eq sign (codes ".") ≡ false → bytes_eq sign (codes "(") ≡ false → bytes_eq sign (codes "[") ≡ false → Begins (IsSign sign) ws → Quiet ws
quiet_sign sign {ws = ws} a b c at =
    record {
      no_dot = no_sign sign (codes ".") ws a at;
      no_call = no_sign sign (codes "(") ws b at;
      no_index = ends_index sign ws c at;
    }

pub put : (Of : Grammar) (ws rest : List Word) → Of ws → MayTake Of (ws ++ rest) rest
put Of ws rest h = record { front = ws; joined = refl; spelled = h }

touching_begins : {F G : Word → Type 0} {ws : List Word} (rest : List Word) → TwoTouching F G ws → Begins F (ws ++ rest)
touching_begins {F = F} rest h = subst (λ l. Begins F (l ++ rest)) (sym h.both) h.is_first

-- an operator begins with a sign
operator_begins : (operator : Operator) (ws rest : List Word) → SpellsOperator operator ws → (sign : List ℕ) × Begins (IsSign sign) (ws ++ rest) × (bytes_eq sign (codes ".") ≡ false) × (bytes_eq sign (codes "(") ≡ false) × (bytes_eq sign (codes "[") ≡ false)
operator_begins ShiftDown ws rest h = (codes ">", touching_begins rest h, refl, refl, refl)
operator_begins NoOperator ws rest h = absurd h
operator_begins op ws rest h = (text_of op, begins (put (Sign (text_of op)) ws rest h), refl, refl, refl)

-- a sign, a number or a reserved word is no name
no_name : {F : Word → Type 0} (ws : List Word) → ((word : Word) → F word → word.kind ≡ kind.Name → ⊥) → Begins F ws → IsReadAhead ws → ⊥
no_name ws none at read = let b = begins_both ws at read.0 in none b.0 b.1 b.2

sign_no_name : (sign : List ℕ) (ws : List Word) → Begins (IsSign sign) ws → IsReadAhead ws → ⊥
sign_no_name sign ws at read = no_name ws (λ word h is. let e : is_sign word.kind ≡ true = h.0 in cc) at read

-- where a dot stands second, a read goes on with a call
after_dot : (ws : List Word) → Begins (IsSign (codes ".")) (drop 1 ws) → IsReadAhead ws → Begins (IsSign (codes "(")) (drop 3 ws)
after_dot ws dot read =
    elim read.1 [
      | inl h ↦ absurd (no_sign (codes ".") (codes "[") (drop 1 ws) refl dot h.0)
      | inr h ↦ h.2
    ]

after_two_dots : (ws : List Word) → Begins (IsSign (codes ".")) (drop 1 ws) → Begins (IsSign (codes ".")) (drop 3 ws) → IsReadAhead ws → ⊥
after_two_dots ws dot other read = no_sign (codes ".") (codes "(") (drop 3 ws) refl other (after_dot ws dot read)

header_no_read : {Q R : Grammar} (header : Name) {a c : List Word} → MayTake ((SpellsHeader header ⨟ Sign (codes ".") ⨟ Q) ⨟ R) a c → IsReadAhead a → ⊥
header_no_read header {a = a} m =
    let m1 = behind_first (regroup (regroup m)) in
    let m2 = behind_first (regroup m1) in
    let m3 = behind_first m2 in
    after_two_dots a (begins_first (regroup m1)) (at_third (Begins (IsSign (codes "."))) a (begins_first (regroup m3)))

back_third : (P : List Word → Type 0) (a : List Word) → P (drop 3 a) → P (drop 1 (drop 1 (drop 1 a)))
back_third P a h = earlier_word P 1 (drop 1 a) (earlier_word P 2 a h)

-- nothing goes on behind the three words of a place
ended_no_read : (a : List Word) {rest : List Word} → Quiet rest → Begins (IsSign (codes ".")) (drop 1 a) → drop 1 (drop 1 (drop 1 a)) ≡ rest → IsReadAhead a → ⊥
ended_no_read a q dot e read = q.no_call (subst (Begins (IsSign (codes "("))) e (back_third (Begins (IsSign (codes "("))) a (after_dot a dot read)))

place_no_read : (depth : ℕ) (of : Lval) (ws rest : List Word) → SpellsLval depth of ws → Quiet rest → IsReadAhead (ws ++ rest) → ⊥
place_no_read depth (lval.Header header field) ws rest h q read = header_no_read header (alone (put (SpellsLval depth (lval.Header header field)) ws rest h)) read
place_no_read depth (lval.Std of) ws rest h q read =
    let m1 = behind_first (put (SpellsLval depth (lval.Std of)) ws rest h) in
    ended_no_read (ws ++ rest) q (begins_first m1) (ap (drop 1) (opened (behind_first m1))) read
place_no_read depth (lval.Meta of None) ws rest h q read =
    let m1 = behind_first (put (SpellsLval depth (lval.Meta of None)) ws rest h) in
    ended_no_read (ws ++ rest) q (begins_first m1) (empty_same (behind_first (behind_first m1))) read
place_no_read depth (lval.Meta of (Some index)) ws rest h q read =
    let m1 = behind_first (put (SpellsLval depth (lval.Meta of (Some index))) ws rest h) in
    let m3 = behind_first (behind_first m1) in
    let at = at_third (Begins (IsSign (codes "["))) (ws ++ rest) (begins_bracketed (codes "[") (codes "]") depth (λ _. Named index) m3) in
    no_sign (codes "[") (codes "(") (drop 3 (ws ++ rest)) refl at (after_dot (ws ++ rest) (begins_first m1) read)

name_no_read : {w : Word} {a rest : List Word} → a ≡ w ∷ rest → Quiet rest → IsReadAhead a → ⊥
name_no_read {a = a} {rest = rest} e q read =
    let same : drop 1 a ≡ rest = ap (drop 1) e in
    elim read.1 [
      | inl h ↦
          let is_name = subst (λ ws. Begins (λ word. word.kind ≡ kind.Name) (drop 1 ws)) same (earlier_word (Begins (λ word. word.kind ≡ kind.Name)) 1 a h.1) in
          name_no_number (drop 1 rest) is_name (q.no_index (subst (Begins (IsSign (codes "["))) same h.0))
      | inr h ↦ q.no_dot (subst (Begins (IsSign (codes "."))) same h.0)
    ]

-- nor where a bracket stands second
call_no_read : (a : List Word) → Begins (IsSign (codes "(")) (drop 1 a) → IsReadAhead a → ⊥
call_no_read a at read =
    elim read.1 [ inl h ↦ no_sign (codes "(") (codes "[") (drop 1 a) refl at h.0 | inr h ↦ no_sign (codes "(") (codes ".") (drop 1 a) refl at h.0 ]

pub cast_begins : (depth width : ℕ) (ws rest : List Word) → SpellsCast depth width ws → Begins (IsSign (codes "(")) (ws ++ rest)
cast_begins depth width ws rest h = begins_bracketed (codes "(") (codes ")") depth _ (put (SpellsCast depth width) ws rest h)

truth_no_read : (which : Bool) (ws rest : List Word) → SpellsTruth which ws → IsReadAhead (ws ++ rest) → ⊥
truth_no_read true ws rest h = no_name (ws ++ rest) (λ word p is. let e : is_reserved word.kind ≡ true = p.0 in cc) (begins (put (SpellsTruth true) ws rest h))
truth_no_read false ws rest h = no_name (ws ++ rest) (λ word p is. let e : is_reserved word.kind ≡ true = p.0 in cc) (begins (put (SpellsTruth false) ws rest h))

range_quiet : (depth high low : ℕ) (ws rest : List Word) → SpellsBitRange depth high low ws → Quiet (ws ++ rest)
range_quiet zero high low ws rest h = absurd h.1
range_quiet (suc depth) high low ws rest h =
    let m = of_where (put (SpellsBitRange (suc depth) high low) ws rest h) in
    let at = begins_first m in
    record {
      no_dot = no_sign (codes "[") (codes ".") (ws ++ rest) refl at;
      no_call = no_sign (codes "[") (codes "(") (ws ++ rest) refl at;
      no_index = λ _. number_there high (drop 1 (ws ++ rest)) (begins_first (regroup (behind_first m)));
    }

pub joined_as : {ws : List Word} (front back rest : List Word) → ws ≡ front ++ back → ws ++ rest ≡ front ++ (back ++ rest)
joined_as front back rest e = ap (λ l. l ++ rest) e ∙ append_assoc front back rest

mutual
  pub level_no_read : (depth level : ℕ) (e : PlainExpr) (ws rest : List Word) → SpellsLevel depth level e ws → Quiet rest → IsReadAhead (ws ++ rest) → ⊥
  level_no_read depth level e ws rest (prefixed h) q read = prefixed_no_read depth e ws rest h q read
  level_no_read depth level e ws rest (stronger {level = below} h) q read = level_no_read depth below e ws rest h q read
  level_no_read depth level e ws rest (binary {level = below} {left = left} operator front sign back is l s r j) q read =
      let o = operator_begins operator sign (back ++ rest) s in
      let quiet = quiet_sign o.0 o.2 o.3 o.4 o.1 in
      let same : ws ++ rest ≡ front ++ (sign ++ (back ++ rest)) = ap (λ l. l ++ rest) j ∙ append_assoc (front ++ sign) back rest ∙ append_assoc front sign (back ++ rest) in
      level_no_read depth (suc below) left front (sign ++ (back ++ rest)) l quiet (subst IsReadAhead same read)

  prefixed_no_read : (depth : ℕ) (e : PlainExpr) (ws rest : List Word) → SpellsPrefixed depth e ws → Quiet rest → IsReadAhead (ws ++ rest) → ⊥
  prefixed_no_read depth e ws rest (primary h) q read = primary_no_read depth e ws rest h q read
  prefixed_no_read depth e ws rest (unary operator front back is s h j) q read =
      let o = operator_begins operator front (back ++ rest) s in
      sign_no_name o.0 (front ++ (back ++ rest)) o.1 (subst IsReadAhead (joined_as front back rest j) read)
  prefixed_no_read depth e ws rest (cast {width = width} front back s h j) q read =
      sign_no_name (codes "(") (front ++ (back ++ rest)) (cast_begins depth width front (back ++ rest) s) (subst IsReadAhead (joined_as front back rest j) read)

  primary_no_read : (depth : ℕ) (e : PlainExpr) (ws rest : List Word) → SpellsPrimary depth e ws → Quiet rest → IsReadAhead (ws ++ rest) → ⊥
  primary_no_read depth e ws rest (number {width = width} {value = value} h) q read = no_name (ws ++ rest) (λ word p is. cc) (begins (of_where (put (SpellsNumber width value) ws rest h))) read
  primary_no_read depth e ws rest (name {text = text} h) q read =
      name_no_read (opened (put (Named text) ws rest h)) q read
  primary_no_read depth e ws rest (truth {which = which} h) q read = truth_no_read which ws rest h read
  primary_no_read depth e ws rest (place {lval = of} h) q read = place_no_read depth of ws rest h q read
  primary_no_read depth e ws rest (is_valid {header = header} h) q read = header_no_read header (alone (put (SpellsIsValid depth header) ws rest h)) read
  primary_no_read (suc depth) e ws rest (bracketed opening inside closing o h c j) q read =
      let same : ws ++ rest ≡ opening ++ (inside ++ (closing ++ rest)) = joined_as (opening ++ inside) closing rest j ∙ append_assoc opening inside (closing ++ rest) in
      sign_no_name (codes "(") (opening ++ (inside ++ (closing ++ rest))) (begins (put (Sign (codes "(")) opening (inside ++ (closing ++ rest)) o)) (subst IsReadAhead same read)
  primary_no_read (suc depth) e ws rest (hash called opening front inside back closing n o f h b c j) q read =
      let t = (front ++ inside ++ back) ++ (closing ++ rest) in
      let same : ws ++ rest ≡ called ++ (opening ++ t) = joined_as (called ++ opening ++ (front ++ inside ++ back)) closing rest j ∙ append_assoc (called ++ opening) (front ++ inside ++ back) (closing ++ rest) ∙ append_assoc called opening t in
      let m : MayTake (Named (codes "hash") ⨟ Sign (codes "(")) (called ++ (opening ++ t)) t = may_both (put (Named (codes "hash")) called (opening ++ t) n) (put (Sign (codes "(")) opening t o) in
      call_no_read (called ++ (opening ++ t)) (begins (behind_first m)) (subst IsReadAhead same read)
  primary_no_read depth e ws rest (slice {high = high} {low = low} {of = of} front back h s j) q read =
      primary_no_read depth of front (back ++ rest) h (range_quiet depth high low back rest s) (subst IsReadAhead (joined_as front back rest j) read)

-- so no assignment of a value is taken for one of a register's cell
pub no_read_of : (depth : ℕ) (value : PlainExpr) {a c : List Word} → MayTake (SpellsExpr depth value ⨟ Sign (codes ";")) a c → IsReadAhead a → ⊥
no_read_of depth value {a = a} m read =
    let s = split m in
    level_no_read depth weakest value s.first.front s.between s.first.spelled (quiet_sign (codes ";") refl refl refl (begins s.second)) (subst IsReadAhead s.first.joined read)
