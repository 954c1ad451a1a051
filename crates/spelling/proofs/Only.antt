-- What a reader must have taken of words that spell one thing and then another: the same words, up to where the other
-- begins.
use Rattle.std.proofs.Common.{◌≡◌, ℕ, zero, suc, ◌+◌, ◌≤◌, Bool, true, false, IsTrue, List, [], ◌∷◌, ◌++◌, None, bytes_eq, cond, refl, ap, sym, subst, ◌∙◌, append_assoc, add-one, ◌⊎◌, inl, inr, drop}
use Rattle.std.proofs.lemmas.Slice.Eq.{bytes_eq-Decides}
use Rattle.std.proofs.lemmas.Bool.{false≢true}
use Rattle.p4_lexer.specs.declared.token.Kind.{Kind}
use Rattle.p4_lexer.specs.declared.token.Kind.TheVariants as kind
use Rattle.spelling.specs.Words.{Word}
use Rattle.spelling.specs.Grammar.{Grammar, Empty, Either, Where, ◌⨟◌, One, Sign, Named, Num, IsSign, IsNum, is_sign, is_reserved, Begins, Bracketed}
use Rattle.spelling.specs.declared.error.SyntaxError.{SyntaxError}
use Rattle.spelling.specs.declared.error.SyntaxError.TheVariants as error
use Rattle.spelling.specs.Reading.{Takes, MayTake, MayRefuse, IsWant, Ends}
use Rattle.spelling.proofs.Taking.{may, may_both, may_empty}

-- where the first of two things ends and the other begins
pub record Split (P Q : Grammar) (a c : List Word) : Type 0 where
  pub between : List Word
  pub first : MayTake P a between
  pub second : MayTake Q between c

pub split : {P Q : Grammar} {a c : List Word} → MayTake (P ⨟ Q) a c → Split P Q a c
split {c = c} m =
    let s = m.spelled in
    record {
      between = s.back ++ c;
      first = record { front = s.front; joined = m.joined ∙ ap (λ ws. ws ++ c) s.joined ∙ append_assoc s.front s.back c; spelled = s.first };
      second = record { front = s.back; joined = refl; spelled = s.second };
    }

-- a reader of the first that must answer it is then before the other
pub after : {P Q : Grammar} {Same : Type 0} {a b c : List Word} → MayTake (P ⨟ Q) a c → ((rest : List Word) → MayTake P a rest → MayTake Q rest c → Same × (b ≡ rest)) → Same × MayTake Q b c
after {Q = Q} {c = c} m reads =
    let s = split m in
    let r = reads s.between s.first s.second in
    (r.0, subst (λ ws. MayTake Q ws c) (sym r.1) s.second)

-- a reader of the first refuses only for want of memory
pub wants : {P Q : Grammar} {Want : Type 0} {a c : List Word} → MayTake (P ⨟ Q) a c → ((rest : List Word) → MayTake P a rest → MayTake Q rest c → Want) → Want
wants m reads = let s = split m in reads s.between s.first s.second

-- the first of three is read before the other two
pub regroup : {P Q R : Grammar} {a c : List Word} → MayTake ((P ⨟ Q) ⨟ R) a c → MayTake (P ⨟ Q ⨟ R) a c
regroup m =
    let s = split m in
    let t = split s.first in
    may_both t.first (may_both t.second s.second)

-- and the first two before the third
pub ungroup : {P Q R : Grammar} {a c : List Word} → MayTake (P ⨟ Q ⨟ R) a c → MayTake ((P ⨟ Q) ⨟ R) a c
ungroup m =
    let s = split m in
    let t = split s.second in
    may_both (may_both s.first t.first) t.second

pub takes_regroup : {P Q R : Grammar} {a c : List Word} → Takes ((P ⨟ Q) ⨟ R) a c → Takes (P ⨟ Q ⨟ R) a c
takes_regroup t = let m = regroup (may t) in record { front = m.front; joined = m.joined; spelled = m.spelled; fewer = t.fewer }

-- alone is first with nothing after it
pub alone : {P : Grammar} {a c : List Word} → MayTake P a c → MayTake (P ⨟ Empty) a c
alone m = may_both m may_empty

pub empty_same : {a c : List Word} → MayTake Empty a c → a ≡ c
empty_same {c = c} m = m.joined ∙ ap (λ ws. ws ++ c) m.spelled

-- the fact that a spelling stands under, and the spelling itself
pub fact_of : {fact : Type 0} {P : Grammar} {a c : List Word} → MayTake (Where fact P) a c → fact
fact_of m = m.spelled.0

pub of_where : {fact : Type 0} {P : Grammar} {a c : List Word} → MayTake (Where fact P) a c → MayTake P a c
of_where m = record { front = m.front; joined = m.joined; spelled = m.spelled.1 }

-- by which of two it is spelled
pub which : {P Q : Grammar} {a c : List Word} → MayTake (Either P Q) a c → MayTake P a c ⊎ MayTake Q a c
which m = elim m.spelled [ inl s ↦ inl record { front = m.front; joined = m.joined; spelled = s } | inr s ↦ inr record { front = m.front; joined = m.joined; spelled = s } ]

-- the word that is taken, and the words behind it
pub opened : {F : Word → Type 0} {a c : List Word} (m : MayTake (One F) a c) → a ≡ m.spelled.word ∷ c
opened {c = c} m = m.joined ∙ ap (λ ws. ws ++ c) m.spelled.alone

opened_takes : {F : Word → Type 0} {a c : List Word} (t : Takes (One F) a c) → a ≡ t.spelled.word ∷ c
opened_takes {c = c} t = t.joined ∙ ap (λ ws. ws ++ c) t.spelled.alone

same_word : {F G : Word → Type 0} {a b c : List Word} (m : MayTake (One F) a c) (t : Takes (One G) a b) → m.spelled.word ≡ t.spelled.word
same_word m t = let e = opened m in let f = opened_takes t in cc

pub one_end : {F G : Word → Type 0} {a b c : List Word} → MayTake (One F) a c → MayTake (One G) a b → b ≡ c
one_end m k = let e = opened m in let f = opened k in cc

pub same_end : {F G : Word → Type 0} {a b c : List Word} → MayTake (One F) a c → Takes (One G) a b → b ≡ c
same_end m t = one_end m (may t)

pub begins : {F : Word → Type 0} {a c : List Word} → MayTake (One F) a c → Begins F a
begins {F = F} m = subst (Begins F) (sym (opened m)) m.spelled.is_this

-- two signs that are spelled by the same word
pub same_text : {s t : List ℕ} {a b c : List Word} → MayTake (Sign s) a b → MayTake (Sign t) a c → s ≡ t
same_text m k = let e = opened m in let f = opened k in let g = m.spelled.is_this.1 in let h = k.spelled.is_this.1 in let w : m.spelled.word ≡ k.spelled.word = cc in cc

pub begins_first : {F : Word → Type 0} {Q : Grammar} {a c : List Word} → MayTake (One F ⨟ Q) a c → Begins F a
begins_first m = begins (split m).first

-- after one word
pub after_one : {F G : Word → Type 0} {Q : Grammar} {a b c : List Word} → MayTake (One F ⨟ Q) a c → Takes (One G) a b → MayTake Q b c
after_one {Q = Q} {c = c} m t =
    let s = split m in
    subst (λ ws. MayTake Q ws c) (sym (same_end s.first t)) s.second

-- the words behind the first
pub behind_first : {F : Word → Type 0} {Q : Grammar} {a c : List Word} → MayTake (One F ⨟ Q) a c → MayTake Q (drop 1 a) c
behind_first {Q = Q} {c = c} m = let s = split m in subst (λ ws. MayTake Q (drop 1 ws) c) (sym (opened s.first)) s.second

-- a word names one name
pub same_name : {n k : List ℕ} {a b c : List Word} → MayTake (Named n) a c → Takes (Named k) a b → k ≡ n
same_name m t = let e = same_word m t in let f = m.spelled.is_this.1 in let g = t.spelled.is_this.1 in cc

pub named_same : {n k : List ℕ} {Q : Grammar} {a b c : List Word} → MayTake (Named n ⨟ Q) a c → Takes (Named k) a b → k ≡ n
named_same m t = same_name (split m).first t

-- what stands there is refused only for want of memory
pub stands : {Stands : Type 0} (at : ℕ) (e : SyntaxError) → MayRefuse Stands at e → Stands → IsWant e
stands at error.Memory r s = tt
stands at (error.NotProgram token) r s = r.1 s
stands at (error.TooDeep token) r s = r

-- so a word, a name or a number that stands there
pub wants_one : {F : Word → Type 0} {Q : Grammar} {a c : List Word} (at : ℕ) (e : SyntaxError) → MayTake (One F ⨟ Q) a c → MayRefuse (Begins F a) at e → IsWant e
wants_one at e m r = stands at e r (begins_first m)

pub begins_as : {F G : Word → Type 0} → ((word : Word) → F word → G word) → (ws : List Word) → Begins F ws → Begins G ws
begins_as f [] b = b
begins_as f (word ∷ ws) b = f word b

pub wants_name : {n : List ℕ} {Q : Grammar} {a c : List Word} (at : ℕ) (e : SyntaxError) → MayTake (Named n ⨟ Q) a c → MayRefuse (Begins (λ word. word.kind ≡ kind.Name) a) at e → IsWant e
wants_name {a = a} at e m r = stands at e r (begins_as (λ word h. h.0) a (begins_first m))

pub wants_number : {n most : ℕ} {Q : Grammar} {a c : List Word} (at : ℕ) (e : SyntaxError) → n ≤ most → MayTake (Num n ⨟ Q) a c → MayRefuse ((value : ℕ) × (value ≤ most) × Begins (IsNum value) a) at e → IsWant e
wants_number {n = n} at e within m r = stands at e r (n, within, begins_first m)

-- what stands between two brackets may open one bracket fewer
pub of_bracketed : (opening closing : List ℕ) (depth inner : ℕ) (Between : ℕ → Grammar) {a d : List Word} → depth ≡ inner + 1 → MayTake (Bracketed opening closing depth Between) a d → MayTake (Sign opening ⨟ Between inner ⨟ Sign closing) a d
of_bracketed opening closing depth inner Between {a = a} {d = d} e m =
    subst (λ n. MayTake (Bracketed opening closing n Between) a d) (e ∙ add-one inner) m

-- the same where something follows the brackets
pub within : (opening closing : List ℕ) (depth inner : ℕ) (Between : ℕ → Grammar) {Q : Grammar} {a d : List Word} → depth ≡ inner + 1 → MayTake (Bracketed opening closing depth Between ⨟ Q) a d → MayTake (Sign opening ⨟ Between inner ⨟ Sign closing ⨟ Q) a d
within opening closing depth inner Between e m =
    let s = split m in
    let t = split (regroup (may_both (of_bracketed opening closing depth inner Between e s.first) s.second)) in
    may_both t.first (regroup t.second)

pub begins_bracketed : (opening closing : List ℕ) (depth : ℕ) (Between : ℕ → Grammar) {a d : List Word} → MayTake (Bracketed opening closing depth Between) a d → Begins (IsSign opening) a
begins_bracketed opening closing zero Between m = absurd m.spelled
begins_bracketed opening closing (suc depth) Between m = begins_first m

-- one word isn't of two texts, nor of two kinds
pub begins_both : {F G : Word → Type 0} (ws : List Word) → Begins F ws → Begins G ws → (word : Word) × F word × G word
begins_both [] f g = absurd f
begins_both (word ∷ ws) f g = (word, f, g)

pub other_text : {F G : Word → Type 0} (s t : List ℕ) (ws : List Word) → bytes_eq s t ≡ false → ((word : Word) → F word → word.piece ≡ s) → ((word : Word) → G word → word.piece ≡ t) → Begins F ws → Begins G ws → ⊥
other_text s t ws differ one other f g =
    let b = begins_both ws f g in
    let e : s ≡ t = sym (one b.0 b.1) ∙ other b.0 b.2 in
    false≢true (sym differ ∙ (bytes_eq-Decides s t).1 e)

pub no_sign : (s t : List ℕ) (ws : List Word) → bytes_eq s t ≡ false → Begins (IsSign s) ws → Begins (IsSign t) ws → ⊥
no_sign s t ws differ f g = other_text s t ws differ (λ word h. h.1) (λ word h. h.1) f g

pub not_sign : {F : Word → Type 0} (t : List ℕ) (ws : List Word) → ((word : Word) → F word → is_sign word.kind ≡ false) → Begins F ws → Begins (IsSign t) ws → ⊥
not_sign t ws none f g =
    let b = begins_both ws f g in
    let e = none b.0 b.1 in
    let h = b.2.0 in
    cc

-- what is spelled by one sign isn't taken for another
pub other_sign : (s t : List ℕ) {a b c : List Word} → bytes_eq s t ≡ false → MayTake (Sign s) a c → Takes (Sign t) a b → ⊥
other_sign s t {a = a} differ m taken = no_sign s t a differ (begins m) (begins (may taken))

-- a sign is none of others
abbrev pub is_none : List ℕ → List (List ℕ) → Bool
is_none s [] = true
is_none s (t ∷ ts) = cond (bytes_eq s t) false (is_none s ts)

both_hold : (is more : Bool) → cond is false more ≡ true → (is ≡ false) × (more ≡ true)
both_hold true more h = absurd (let e : false ≡ true = h in cc)
both_hold false more h = (refl, h)

-- another sign ends what goes on at these
pub ends_sign : (signs : List (List ℕ)) (s : List ℕ) (ws : List Word) → is_none s signs ≡ true → Begins (IsSign s) ws → Ends signs ws
ends_sign [] s ws none b = tt
ends_sign (t ∷ ts) s ws none b =
    let h = both_hold (bytes_eq s t) (is_none s ts) none in
    (no_sign s t ws h.0 b, ends_sign ts s ws h.1 b)

-- so does a word that is no sign
pub ends_other : {F : Word → Type 0} (signs : List (List ℕ)) (ws : List Word) → ((word : Word) → F word → is_sign word.kind ≡ false) → Begins F ws → Ends signs ws
ends_other [] ws none b = tt
ends_other (t ∷ ts) ws none b = (not_sign t ws none b, ends_other ts ws none b)

-- a reserved word is no sign
pub reserved_no_sign : (k : Kind) → IsTrue (is_reserved k) → is_sign k ≡ false
reserved_no_sign (kind.Reserved code) h = refl
reserved_no_sign (kind.Sign code) h = sym h
reserved_no_sign kind.Name h = refl
reserved_no_sign (kind.Number width value) h = refl
reserved_no_sign (kind.Include file) h = refl

-- what a test denied isn't there
pub not_there : {Stands : Type 0} → (Stands → IsTrue false) → Stands → ⊥
not_there test stands = false≢true (test stands)

-- a word is one number
pub same_number : {n k : ℕ} {a b c : List Word} → MayTake (Num n) a c → Takes (Num k) a b → k ≡ n
same_number {n = n} {k = k} m t = let e = same_word m t in let f : m.spelled.word.kind ≡ kind.Number None n = m.spelled.is_this in let g : t.spelled.word.kind ≡ kind.Number None k = t.spelled.is_this in cc

pub number_same : {n k : ℕ} {Q : Grammar} {a b c : List Word} → MayTake (Num n ⨟ Q) a c → Takes (Num k) a b → k ≡ n
number_same m t = same_number (split m).first t
