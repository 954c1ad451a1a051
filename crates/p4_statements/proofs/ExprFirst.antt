-- With which signs an expression may begin: an opening bracket, or an operator before its operand.
use Rattle.spelling.proofs.Limits.{inside}
use Rattle.std.proofs.Common.{◌≡◌, ℕ, suc, Bool, true, false, List, ◌++◌, codes, bytes_eq, refl, ap, subst, ◌∙◌, append_assoc}
use Rattle.elastic_ast.specs.declared.statements.Lval.{Lval}
use Rattle.elastic_ast.specs.declared.statements.Lval.TheVariants as lval
use Rattle.elastic_ast.specs.OperatorSorts.{Operator, Turn, Negate, NoOperator}
use Rattle.elastic_ast.specs.Tree.{PlainExpr}
use Rattle.spelling.specs.Words.{Word}
use Rattle.spelling.specs.Grammar.{Grammar, ◌⨟◌, Named, Sign, Begins, IsSign, is_sign}
use Rattle.spelling.specs.Reading.{MayTake}
use Rattle.spelling.proofs.Only.{begins, begins_first, no_sign, not_sign, of_where, regroup, reserved_no_sign, split}
use Rattle.p4_expr.specs.Parts.{SpellsIsValid, SpellsLval, SpellsNumber, SpellsTruth}
use Rattle.p4_expr.specs.Operators.{SpellsOperator, level_of, weakest}
use Rattle.p4_expr.specs.Expressions.{SpellsLevel, SpellsPrefixed, SpellsPrimary, SpellsExpr, prefixed, stronger, binary, primary, unary, cast, number, name, truth, place, is_valid, bracketed, hash, slice}
use Rattle.p4_statements.proofs.NoRead.{cast_begins, joined_as, put}

-- a sign with which none does
pub record NoFirst (sign : List ℕ) : Type 0 where
  pub no_bracket : bytes_eq (codes "(") sign ≡ false
  pub no_turn : bytes_eq (codes "~") sign ≡ false
  pub no_negation : bytes_eq (codes "!") sign ≡ false

prefix_first : (operator : Operator) {sign : List ℕ} (ws rest : List Word) → NoFirst sign → level_of operator ≡ 0 → SpellsOperator operator ws → Begins (IsSign sign) (ws ++ rest) → ⊥
prefix_first Turn {sign = sign} ws rest n e h at = no_sign (codes "~") sign (ws ++ rest) n.no_turn (begins (put (Sign (codes "~")) ws rest h)) at
prefix_first Negate {sign = sign} ws rest n e h at = no_sign (codes "!") sign (ws ++ rest) n.no_negation (begins (put (Sign (codes "!")) ws rest h)) at
prefix_first NoOperator ws rest n e h at = absurd h
prefix_first _ ws rest n e h at = absurd cc

truth_first : (which : Bool) (sign : List ℕ) (ws rest : List Word) → SpellsTruth which ws → Begins (IsSign sign) (ws ++ rest) → ⊥
truth_first true sign ws rest h at = not_sign sign (ws ++ rest) (λ word p. reserved_no_sign word.kind p.0) (begins (put (SpellsTruth true) ws rest h)) at
truth_first false sign ws rest h at = not_sign sign (ws ++ rest) (λ word p. reserved_no_sign word.kind p.0) (begins (put (SpellsTruth false) ws rest h)) at

place_first : (depth : ℕ) (of : Lval) (sign : List ℕ) (ws rest : List Word) → SpellsLval depth of ws → Begins (IsSign sign) (ws ++ rest) → ⊥
place_first depth (lval.Header header field) sign ws rest h at = not_sign sign (ws ++ rest) (λ word p. ap is_sign p.0) (begins_first (regroup (put (SpellsLval depth (lval.Header header field)) ws rest h))) at
place_first depth (lval.Meta of index) sign ws rest h at = not_sign sign (ws ++ rest) (λ word p. ap is_sign p.0) (begins_first (put (SpellsLval depth (lval.Meta of index)) ws rest h)) at
place_first depth (lval.Std of) sign ws rest h at = not_sign sign (ws ++ rest) (λ word p. ap is_sign p.0) (begins_first (put (SpellsLval depth (lval.Std of)) ws rest h)) at

mutual
  pub level_first : (depth level : ℕ) (e : PlainExpr) (sign : List ℕ) (ws rest : List Word) → NoFirst sign → SpellsLevel depth level e ws → Begins (IsSign sign) (ws ++ rest) → ⊥
  level_first depth level e sign ws rest n (prefixed h) at = prefixed_first depth e sign ws rest n h at
  level_first depth level e sign ws rest n (stronger {level = below} h) at = level_first depth below e sign ws rest n h at
  level_first depth level e sign ws rest n (binary {level = below} {left = left} _ front middle back is l s r j) at =
      let same : ws ++ rest ≡ front ++ (middle ++ (back ++ rest)) = ap (λ l. l ++ rest) j ∙ append_assoc (front ++ middle) back rest ∙ append_assoc front middle (back ++ rest) in
      level_first depth (suc below) left sign front (middle ++ (back ++ rest)) n l (subst (Begins (IsSign sign)) same at)

  prefixed_first : (depth : ℕ) (e : PlainExpr) (sign : List ℕ) (ws rest : List Word) → NoFirst sign → SpellsPrefixed depth e ws → Begins (IsSign sign) (ws ++ rest) → ⊥
  prefixed_first depth e sign ws rest n (primary h) at = primary_first depth e sign ws rest n h at
  prefixed_first depth e sign ws rest n (unary op front back is s h j) at =
      prefix_first op front (back ++ rest) n is.level_is s (subst (Begins (IsSign sign)) (joined_as front back rest j) at)
  prefixed_first depth e sign ws rest n (cast {width = width} front back s h j) at =
      no_sign (codes "(") sign (front ++ (back ++ rest)) n.no_bracket (cast_begins depth width front (back ++ rest) s) (subst (Begins (IsSign sign)) (joined_as front back rest j) at)

  primary_first : (depth : ℕ) (e : PlainExpr) (sign : List ℕ) (ws rest : List Word) → NoFirst sign → SpellsPrimary depth e ws → Begins (IsSign sign) (ws ++ rest) → ⊥
  primary_first depth e sign ws rest n (number {width = width} {value = value} h) at = not_sign sign (ws ++ rest) (λ word p. ap is_sign p) (begins (of_where (put (SpellsNumber width value) ws rest h))) at
  primary_first depth e sign ws rest n (name {text = text} h) at = not_sign sign (ws ++ rest) (λ word p. ap is_sign p.0) (begins (put (Named text) ws rest h)) at
  primary_first depth e sign ws rest n (truth {which = which} h) at = truth_first which sign ws rest h at
  primary_first depth e sign ws rest n (place {lval = of} h) at = place_first depth of sign ws rest h at
  primary_first depth e sign ws rest n (is_valid {header = header} h) at = not_sign sign (ws ++ rest) (λ word p. ap is_sign p.0) (begins_first (regroup (put (SpellsIsValid depth header) ws rest h))) at
  primary_first (suc depth) e sign ws rest n (bracketed opening inside closing o h c j) at =
      let same : ws ++ rest ≡ opening ++ (inside ++ (closing ++ rest)) = joined_as (opening ++ inside) closing rest j ∙ append_assoc opening inside (closing ++ rest) in
      no_sign (codes "(") sign (opening ++ (inside ++ (closing ++ rest))) n.no_bracket (begins (put (Sign (codes "(")) opening (inside ++ (closing ++ rest)) o)) (subst (Begins (IsSign sign)) same at)
  primary_first (suc depth) e sign ws rest n (hash called opening front inside back closing m o f h b c j) at =
      let t = (front ++ inside ++ back) ++ (closing ++ rest) in
      let same : ws ++ rest ≡ called ++ (opening ++ t) = joined_as (called ++ opening ++ (front ++ inside ++ back)) closing rest j ∙ append_assoc (called ++ opening) (front ++ inside ++ back) (closing ++ rest) ∙ append_assoc called opening t in
      not_sign sign (called ++ (opening ++ t)) (λ word p. ap is_sign p.0) (begins (put (Named (codes "hash")) called (opening ++ t) m)) (subst (Begins (IsSign sign)) same at)
  primary_first depth e sign ws rest n (slice {of = of} front back h s j) at =
      primary_first depth of sign front (back ++ rest) n h (subst (Begins (IsSign sign)) (joined_as front back rest j) at)

pub no_closing : NoFirst (codes ")")
no_closing = record { no_bracket = refl; no_turn = refl; no_negation = refl }

-- so none begins with another sign
pub expr_first : (depth : ℕ) (e : PlainExpr) (sign : List ℕ) {Q : Grammar} {a c : List Word} → NoFirst sign → MayTake (SpellsExpr depth e ⨟ Q) a c → Begins (IsSign sign) a → ⊥
expr_first depth e sign n m at =
    let s = split m in
    level_first depth weakest e sign s.first.front s.between n s.first.spelled (subst (Begins (IsSign sign)) s.first.joined at)
