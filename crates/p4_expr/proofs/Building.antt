-- Derivations of small expressions.
use Rattle.std.specs.Prelude.{slice_get}
use Rattle.std.proofs.Common.{◌≡◌, ℕ, zero, suc, ◌<◌, ◌^◌, IsTrue, List, [], ◌∷◌, codes, refl, sym, subst, None, Some}
use Rattle.p4_lexer.specs.declared.token.Kind.{Kind}
use Rattle.p4_lexer.specs.declared.token.Kind.TheVariants as kind
use Rattle.elastic_ast.specs.Tree.{PlainExpr}
use Rattle.elastic_ast.specs.OperatorSorts.{Operator, ShiftDown, operators, operator_code}
use Rattle.spelling.specs.Words.{Word}
use Rattle.spelling.specs.Grammar as grammar
use Rattle.spelling.specs.Grammar.{Grammar, Sequence, One, IsSign, IsReserved, IsNamed, IsNum}
use Rattle.p4_expr.specs.Operators.{IsOperator, SpellsOperator, level_of}
use Rattle.p4_expr.specs.Parts.{SpellsBitRange, SpellsCast}
use Rattle.p4_expr.specs.Expressions.{SpellsLevel, SpellsPrefixed, SpellsPrimary}

pub is_sign : (text : List ℕ) (code : ℕ) (w : Word) → w.kind ≡ kind.Sign code → w.piece ≡ text → IsSign text w
is_sign text code w h e = (let P : Kind → Type 0 = λ k. IsTrue (grammar.is_sign k) in subst P (sym h) refl, e)

pub is_reserved : (text : List ℕ) (code : ℕ) (w : Word) → w.kind ≡ kind.Reserved code → w.piece ≡ text → IsReserved text w
is_reserved text code w h e = (let P : Kind → Type 0 = λ k. IsTrue (grammar.is_reserved k) in subst P (sym h) refl, e)

pub word_first : {P : Word → Type 0} → {G : Grammar} → (w : Word) (ws : List Word) → P w → G ws → Sequence (One P) G (w ∷ ws)
word_first w ws p g = record { front = w ∷ []; back = ws; joined = refl; first = record { word = w; alone = refl; is_this = p }; second = g }

pub word_last : {P : Word → Type 0} → (w : Word) → P w → One P (w ∷ [])
word_last w p = record { word = w; alone = refl; is_this = p }

pub sign_first : {G : Grammar} → (text : List ℕ) (code : ℕ) (w : Word) (ws : List Word) → w.kind ≡ kind.Sign code → w.piece ≡ text → G ws → Sequence (One (IsSign text)) G (w ∷ ws)
sign_first text code w ws h e g = word_first w ws (is_sign text code w h e) g

pub sign_last : (text : List ℕ) (code : ℕ) (w : Word) → w.kind ≡ kind.Sign code → w.piece ≡ text → One (IsSign text) (w ∷ [])
sign_last text code w h e = word_last w (is_sign text code w h e)

pub reserved_first : {G : Grammar} → (text : List ℕ) (code : ℕ) (w : Word) (ws : List Word) → w.kind ≡ kind.Reserved code → w.piece ≡ text → G ws → Sequence (One (IsReserved text)) G (w ∷ ws)
reserved_first text code w ws h e g = word_first w ws (is_reserved text code w h e) g

pub reserved_last : (text : List ℕ) (code : ℕ) (w : Word) → w.kind ≡ kind.Reserved code → w.piece ≡ text → One (IsReserved text) (w ∷ [])
reserved_last text code w h e = word_last w (is_reserved text code w h e)

pub name_first : {G : Grammar} → (text : List ℕ) (w : Word) (ws : List Word) → w.kind ≡ kind.Name → w.piece ≡ text → G ws → Sequence (One (IsNamed text)) G (w ∷ ws)
name_first text w ws h e g = word_first w ws (h, e) g

pub name_last : (text : List ℕ) (w : Word) → w.kind ≡ kind.Name → w.piece ≡ text → One (IsNamed text) (w ∷ [])
name_last text w h e = word_last w (h, e)

pub touching : (one two : Word) → one.kind ≡ kind.Sign 7 → one.piece ≡ codes ">" → two.kind ≡ kind.Sign 7 → two.piece ≡ codes ">" → one.end ≡ two.at → SpellsOperator ShiftDown (one ∷ two ∷ [])
touching one two h e k f touch = record { one = one; other = two; both = refl; is_first = is_sign (codes ">") 7 one h e; is_second = is_sign (codes ">") 7 two k f; touch = touch }

pub is_coded : (operator : Operator) → slice_get operators (operator_code operator) ≡ Some operator → IsOperator (level_of operator) (operator_code operator) operator
is_coded op coded = record { coded = coded; level_is = refl }

-- the bounds of a slice, and a cast, word by word
pub bits_words : (depth : ℕ) {high low : ℕ} (o h c l e : Word) → (high < 2 ^ 8) × (low < 2 ^ 8) → o.kind ≡ kind.Sign 4 → o.piece ≡ codes "[" → h.kind ≡ kind.Number None high → c.kind ≡ kind.Sign 9 → c.piece ≡ codes ":" → l.kind ≡ kind.Number None low → e.kind ≡ kind.Sign 5 → e.piece ≡ codes "]" → SpellsBitRange (suc depth) high low (o ∷ h ∷ c ∷ l ∷ e ∷ [])
bits_words depth o h c l e fits ok op hk ck cp lk ek ep = (
  fits,
  sign_first (codes "[") 4 o _ ok op record {
    front = h ∷ c ∷ l ∷ [];
    back = e ∷ [];
    joined = refl;
    first = word_first h _ hk (sign_first (codes ":") 9 c _ ck cp (word_last l lk));
    second = sign_last (codes "]") 5 e ek ep;
  },
)

pub cast_words : (depth : ℕ) {width : ℕ} (o b l n g e : Word) → width < 2 ^ 8 → o.kind ≡ kind.Sign 2 → o.piece ≡ codes "(" → b.kind ≡ kind.Reserved 1 → b.piece ≡ codes "bit" → l.kind ≡ kind.Sign 6 → l.piece ≡ codes "<" → n.kind ≡ kind.Number None width → g.kind ≡ kind.Sign 7 → g.piece ≡ codes ">" → e.kind ≡ kind.Sign 3 → e.piece ≡ codes ")" → SpellsCast (suc depth) width (o ∷ b ∷ l ∷ n ∷ g ∷ e ∷ [])
cast_words depth o b l n g e fits ok op bk bp lk lp nk gk gp ek ep =
    sign_first (codes "(") 2 o _ ok op record {
      front = b ∷ l ∷ n ∷ g ∷ [];
      back = e ∷ [];
      joined = refl;
      first = (fits, reserved_first (codes "bit") 1 b _ bk bp (sign_first (codes "<") 6 l _ lk lp (word_first n _ nk (sign_last (codes ">") 7 g gk gp))));
      second = sign_last (codes ")") 3 e ek ep;
    }

pub primary_name : (depth : ℕ) (text : List ℕ) (w : Word) → w.kind ≡ kind.Name → w.piece ≡ text → SpellsPrimary depth (PlainExpr.Named text) (w ∷ [])
primary_name depth text w h e = SpellsPrimary.name (word_last w (h, e))

pub prefixed_name : (depth : ℕ) (text : List ℕ) (w : Word) → w.kind ≡ kind.Name → w.piece ≡ text → SpellsPrefixed depth (PlainExpr.Named text) (w ∷ [])
prefixed_name depth text w h e = SpellsPrefixed.primary (primary_name depth text w h e)

pub one_name : (depth : ℕ) (text : List ℕ) (w : Word) → w.kind ≡ kind.Name → w.piece ≡ text → SpellsLevel depth 0 (PlainExpr.Named text) (w ∷ [])
one_name depth text w h e = SpellsLevel.prefixed (prefixed_name depth text w h e)

pub one_number : (depth : ℕ) (value : ℕ) (w : Word) → value < 2 ^ 128 → w.kind ≡ kind.Number None value → SpellsLevel depth 0 (PlainExpr.Num None value) (w ∷ [])
one_number depth value w fits h = SpellsLevel.prefixed (SpellsPrefixed.primary (SpellsPrimary.number ((tt, fits), word_last w h)))

-- so many levels up
abbrev pub raised : ℕ → ℕ → ℕ
raised zero level = level
raised (suc n) level = suc (raised n level)

pub lift : {depth level : ℕ} {e : PlainExpr} {ws : List Word} (n : ℕ) → SpellsLevel depth level e ws → SpellsLevel depth (raised n level) e ws
lift zero h = h
lift (suc n) h = SpellsLevel.stronger (lift n h)

pub from_three : (depth : ℕ) (e : PlainExpr) (ws : List Word) → SpellsLevel depth 3 e ws → SpellsLevel depth 10 e ws
from_three depth e ws h = lift 7 h

pub from_two : (depth : ℕ) (e : PlainExpr) (ws : List Word) → SpellsLevel depth 2 e ws → SpellsLevel depth 10 e ws
from_two depth e ws h = lift 8 h

pub from_none : (depth : ℕ) (e : PlainExpr) (ws : List Word) → SpellsLevel depth 0 e ws → SpellsLevel depth 10 e ws
from_none depth e ws h = lift 10 h
