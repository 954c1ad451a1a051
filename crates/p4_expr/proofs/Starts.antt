-- The first word of an expression.
use Rattle.std.proofs.Common.{◌≡◌, ℕ, List, [], ◌∷◌, ◌++◌, false, bytes_eq, IsTrue, codes, refl, sym, ap, subst, ◌∙◌, inl, inr}
use Rattle.std.proofs.lemmas.Bool.{false≢true}
use Rattle.std.proofs.lemmas.Slice.Eq.{bytes_eq-Decides}
use Rattle.p4_lexer.specs.declared.token.Kind.{Kind}
use Rattle.elastic_ast.specs.Tree.{PlainExpr}
use Rattle.spelling.specs.Words.{Word}
use Rattle.spelling.specs.Grammar.{Grammar, IsSign, IsReserved, Begins, is_sign, is_reserved}
use Rattle.spelling.specs.Reading.{MayTake}
use Rattle.spelling.proofs.Only.{begins_bracketed, reserved_no_sign}
use Rattle.spelling.proofs.Taking.{all_taken}
use Rattle.p4_expr.specs.Expressions.{SpellsExpr}
use Rattle.p4_expr.specs.Bases.{SpellsOwn, SpellsInBrackets, SpellsBase}
use Rattle.p4_expr.proofs.FormWords.{own_first, number_sort}

-- a property of the first word of some words holds of that of more
pub begins_front : (P : Word → Type 0) (front back : List Word) → Begins P front → Begins P (front ++ back)
begins_front P [] back b = absurd b
begins_front P (word ∷ front) back b = b

pub begins_also : {F G : Word → Type 0} (ws : List Word) → ((word : Word) → F word → G word) → Begins F ws → Begins G ws
begins_also [] f b = b
begins_also (word ∷ ws) f b = f word b

pub begins_taken : (P : Word → Type 0) (Of : Grammar) {a c : List Word} → ((ws : List Word) → Of ws → Begins P ws) → MayTake Of a c → Begins P a
begins_taken P Of {c = c} first m = subst (Begins P) (sym m.joined) (begins_front P m.front c (first m.front m.spelled))

-- two properties that no word has
pub never_both : {F G : Word → Type 0} (ws : List Word) → ((word : Word) → F word → G word → ⊥) → Begins F ws → Begins G ws → ⊥
never_both [] clash f g = f
never_both (word ∷ ws) clash f g = clash word f g

-- what an expression may begin with is no `>` and no `bit`, and a primary one doesn't begin with a prefix either
pub record IsStart (word : Word) : Type 0 where
  pub no_angle : IsSign (codes ">") word → ⊥
  pub no_bit : IsReserved (codes "bit") word → ⊥

pub record IsPrimaryStart (word : Word) : Type 0 where
  pub start : IsStart word
  pub no_turn : IsSign (codes "~") word → ⊥
  pub no_negate : IsSign (codes "!") word → ⊥

no_sort : (s t : List ℕ) (word : Word) → bytes_eq s t ≡ false → word.piece ≡ s → word.piece ≡ t → ⊥
no_sort s t word differ is other = false≢true (sym differ ∙ (bytes_eq-Decides s t).1 (sym is ∙ other))

other_kind : (k : Kind) → is_sign k ≡ false → IsTrue (is_sign k) → ⊥
other_kind k none is = false≢true (sym none ∙ is)

no_reserved : (k : Kind) → is_reserved k ≡ false → IsTrue (is_reserved k) → ⊥
no_reserved k none is = false≢true (sym none ∙ is)

-- a word that is neither a sign nor reserved
plain_start : (word : Word) → is_sign word.kind ≡ false → is_reserved word.kind ≡ false → IsPrimaryStart word
plain_start word sign reserved =
    record {
      start = record { no_angle = λ h. other_kind word.kind sign h.0; no_bit = λ h. no_reserved word.kind reserved h.0 };
      no_turn = λ h. other_kind word.kind sign h.0;
      no_negate = λ h. other_kind word.kind sign h.0;
    }

truth_start : (t : List ℕ) (word : Word) → bytes_eq t (codes "bit") ≡ false → IsReserved t word → IsPrimaryStart word
truth_start t word differ is =
    let sign = reserved_no_sign word.kind is.0 in
    record {
      start = record { no_angle = λ h. other_kind word.kind sign h.0; no_bit = λ h. no_sort t (codes "bit") word differ is.1 h.1 };
      no_turn = λ h. other_kind word.kind sign h.0;
      no_negate = λ h. other_kind word.kind sign h.0;
    }

sign_reserved : (k : Kind) → IsTrue (is_sign k) → IsTrue (is_reserved k) → ⊥
sign_reserved k s r = other_kind k (reserved_no_sign k r) s

-- any sign but `>` is a start
pub sign_start : (s : List ℕ) (word : Word) → bytes_eq s (codes ">") ≡ false → IsSign s word → IsStart word
sign_start s word differ is = record { no_angle = λ h. no_sort s (codes ">") word differ is.1 h.1; no_bit = λ h. sign_reserved word.kind is.0 h.0 }

opening_start : (word : Word) → IsSign (codes "(") word → IsPrimaryStart word
opening_start word is =
    record {
      start = sign_start (codes "(") word refl is;
      no_turn = λ h. no_sort (codes "(") (codes "~") word refl is.1 h.1;
      no_negate = λ h. no_sort (codes "(") (codes "!") word refl is.1 h.1;
    }

own_starts : (depth : ℕ) (e : PlainExpr) (ws : List Word) → SpellsOwn depth e ws → Begins IsPrimaryStart ws
own_starts depth e ws h =
    own_first (λ _. Begins IsPrimaryStart ws) depth e (all_taken (SpellsOwn depth e) h)
    (λ b. begins_also ws (λ word n. let s = number_sort word.kind n in plain_start word s.0 s.1) b)
    (λ t. elim t [ inl b ↦ begins_also ws (λ word r. truth_start (codes "true") word refl r) b | inr b ↦ begins_also ws (λ word r. truth_start (codes "false") word refl r) b ])
    (λ b. begins_also ws (λ word n. plain_start word (ap is_sign n) (ap is_reserved n)) b)

brackets_start : (depth : ℕ) (e : PlainExpr) (ws : List Word) → SpellsInBrackets depth e ws → Begins IsPrimaryStart ws
brackets_start depth e ws h =
    begins_also ws opening_start (begins_bracketed (codes "(") (codes ")") depth (λ inner. SpellsExpr inner e) (all_taken (SpellsInBrackets depth e) h))

pub base_starts : (depth : ℕ) (e : PlainExpr) (ws : List Word) → SpellsBase depth e ws → Begins IsPrimaryStart ws
base_starts depth e ws (inl h) = own_starts depth e ws h
base_starts depth e ws (inr h) = brackets_start depth e ws h
