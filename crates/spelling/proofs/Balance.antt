-- Words that open no more brackets than a depth allows, and close those that they open.
use Rattle.std.proofs.Common.{◌≡◌, ℕ, zero, suc, ◌+◌, ◌-◌, ◌≤◌, Bool, true, false, List, [], ◌∷◌, ◌++◌, ◌&&◌, append_assoc, refl, sym, ap, subst, ◌∙◌, inl, inr, arith, add-one, codes, cond}
use Rattle.std.proofs.Math.Nat.{max-le}
use Rattle.p4_lexer.specs.declared.token.Kind.{Kind}
use Rattle.spelling.specs.Words.{Word}
use Rattle.spelling.specs.Grammar.{Grammar, Empty, Either, Where, ◌⨟◌, One, TwoTouching, Each, FirstThenEach, Separated, Commas, Sign, Reserved, Named, IsSign, Bracketed, is_sign}
use Rattle.spelling.specs.Brackets.{is_opening, is_closing, opens, closes, open_at, open_after, open_behind, most_open_from, most_open}
use Rattle.spelling.proofs.Only.{reserved_no_sign}

-- however many are open before
pub record Within (depth : ℕ) (ws : List Word) : Type 0 where
  pub balanced : (n : ℕ) → open_behind n ws ≡ n
  pub at_most : (n : ℕ) → most_open_from n ws ≤ n + depth

pub most_within : {depth : ℕ} {ws : List Word} → Within depth ws → most_open ws ≤ depth
most_within w = let h = w.at_most 0 in omega (arith, h)

abbrev pub Stays : ℕ → Grammar → Type 0
Stays depth Of = (ws : List Word) → Of ws → Within depth ws

pub none_within : (depth : ℕ) → Within depth []
none_within depth = record { balanced = λ n. refl; at_most = λ n. omega arith }

pub behind_both : (n : ℕ) (a b : List Word) → open_behind n (a ++ b) ≡ open_behind (open_behind n a) b
behind_both n [] b = refl
behind_both n (w ∷ a) b = behind_both (open_after n w) a b

most_both : (n k : ℕ) (a b : List Word) → most_open_from n a ≤ k → most_open_from (open_behind n a) b ≤ k → most_open_from n (a ++ b) ≤ k
most_both n k [] b h g = g
most_both n k (w ∷ a) b h g =
    let at : open_at n w ≤ k = omega (arith, h) in
    let later : most_open_from (open_after n w) a ≤ k = omega (arith, h) in
    max-le at (most_both (open_after n w) k a b later g)

pub both_within : {depth : ℕ} {a b : List Word} → Within depth a → Within depth b → Within depth (a ++ b)
both_within {depth = depth} {a = a} {b = b} p q =
    record {
      balanced = λ n. behind_both n a b ∙ ap (λ m. open_behind m b) (p.balanced n) ∙ q.balanced n;
      at_most = λ n. most_both n (n + depth) a b (p.at_most n) (subst (λ m. most_open_from m b ≤ n + depth) (sym (p.balanced n)) (q.at_most n));
    }

pub deeper_within : {depth more : ℕ} {ws : List Word} → depth ≤ more → Within depth ws → Within more ws
deeper_within le p = record { balanced = p.balanced; at_most = λ n. let h = p.at_most n in omega (arith, h, le) }

at_other : (n : ℕ) (opening : Bool) → opening ≡ false → cond opening (n + 1) n ≡ n
at_other n true h = absurd cc
at_other n false h = refl

after_other : (n : ℕ) (opening closing : Bool) → opening ≡ false → closing ≡ false → cond opening (n + 1) (cond closing (n - 1) n) ≡ n
after_other n true closing h g = absurd cc
after_other n false true h g = absurd cc
after_other n false false h g = refl

-- a word that is no bracket
pub other_within : (depth : ℕ) (w : Word) → opens w ≡ false → closes w ≡ false → Within depth (w ∷ [])
other_within depth w no_opening no_closing =
    record {
      balanced = λ n. after_other n (opens w) (closes w) no_opening no_closing;
      at_most = λ n. let e : open_at n w ≡ n = at_other n (opens w) no_opening in max-le (omega (arith, e)) (omega arith);
    }

after_opening : (n : ℕ) (opening closing : Bool) → opening ≡ true → cond opening (n + 1) (cond closing (n - 1) n) ≡ n + 1
after_opening n true closing h = refl
after_opening n false closing h = absurd cc

after_closing : (n : ℕ) (opening closing : Bool) → opening ≡ false → closing ≡ true → cond opening (n + 1) (cond closing (n - 1) n) ≡ n - 1
after_closing n true closing h g = absurd cc
after_closing n false true h g = refl
after_closing n false false h g = absurd cc

at_opening : (n : ℕ) (opening : Bool) → opening ≡ true → cond opening (n + 1) n ≡ n + 1
at_opening n true h = refl
at_opening n false h = absurd cc

-- two brackets with words between them
pub brackets_within : {depth : ℕ} {ws : List Word} → (opening closing : Word) → opens opening ≡ true → opens closing ≡ false → closes closing ≡ true → Within depth ws → Within (suc depth) (opening ∷ (ws ++ closing ∷ []))
brackets_within {depth = depth} {ws = ws} opening closing a b c p =
    let first : (n : ℕ) → open_after n opening ≡ n + 1 = λ n. after_opening n (opens opening) (closes opening) a in
    let last : (n : ℕ) → open_after n closing ≡ n - 1 = λ n. after_closing n (opens closing) (closes closing) b c in
    let back : (n : ℕ) → open_behind (n + 1) (ws ++ closing ∷ []) ≡ n = λ n. behind_both (n + 1) ws (closing ∷ []) ∙ ap (λ m. open_behind m (closing ∷ [])) (p.balanced (n + 1)) ∙ last (n + 1) ∙ omega arith in
    record {
      balanced = λ n. ap (λ m. open_behind m (ws ++ closing ∷ [])) (first n) ∙ back n;
      at_most = λ n.
          let top : open_at n opening ≡ n + 1 = at_opening n (opens opening) a in
          let end : open_at (n + 1) closing ≡ n + 1 = at_other (n + 1) (opens closing) b in
          let inside : most_open_from (n + 1) ws ≤ n + suc depth = let h = p.at_most (n + 1) in omega (arith, h, add-one depth) in
          let ending : most_open_from (n + 1) (closing ∷ []) ≤ n + suc depth = max-le (omega (arith, end)) (omega arith) in
          let after : most_open_from (open_behind (n + 1) ws) (closing ∷ []) ≤ n + suc depth = subst (λ m. most_open_from m (closing ∷ []) ≤ n + suc depth) (sym (p.balanced (n + 1))) ending in
          let rest : most_open_from (n + 1) (ws ++ closing ∷ []) ≤ n + suc depth = most_both (n + 1) (n + suc depth) ws (closing ∷ []) inside after in
          max-le (omega (arith, top)) (subst (λ m. most_open_from m (ws ++ closing ∷ []) ≤ n + suc depth) (sym (first n)) rest);
    }

-- each grammar of the algebra
pub stays_empty : {depth : ℕ} → Stays depth Empty
stays_empty {depth = depth} ws h = subst (Within depth) (sym h) (none_within depth)

pub stays_one : {depth : ℕ} {F : Word → Type 0} → ((w : Word) → F w → (opens w ≡ false) × (closes w ≡ false)) → Stays depth (One F)
stays_one {depth = depth} other ws h = let o = other h.word h.is_this in subst (Within depth) (sym h.alone) (other_within depth h.word o.0 o.1)

and_false : (a b : Bool) → a ≡ false → (a && b) ≡ false
and_false true b h = absurd cc
and_false false b h = refl

and_true : (a b : Bool) → a ≡ true → (a && b) ≡ b
and_true true b h = refl
and_true false b h = absurd cc

no_sign_other : (w : Word) → is_sign w.kind ≡ false → (opens w ≡ false) × (closes w ≡ false)
no_sign_other w h = (and_false (is_sign w.kind) (is_opening w.piece) h, and_false (is_sign w.kind) (is_closing w.piece) h)

-- a sign opens and closes by its text
pub sign_opens : (text : List ℕ) (w : Word) → IsSign text w → opens w ≡ is_opening text
sign_opens text w h = and_true (is_sign w.kind) (is_opening w.piece) h.0 ∙ ap is_opening h.1

pub sign_closes : (text : List ℕ) (w : Word) → IsSign text w → closes w ≡ is_closing text
sign_closes text w h = and_true (is_sign w.kind) (is_closing w.piece) h.0 ∙ ap is_closing h.1

-- behind an opening sign one more is open
pub open_sign : (text : List ℕ) (n : ℕ) (ws : List Word) → is_opening text ≡ true → Sign text ws → open_behind n ws ≡ n + 1
open_sign text n ws is h = ap (open_behind n) h.alone ∙ after_opening n (opens h.word) (closes h.word) (sign_opens text h.word h.is_this ∙ is)

pub stays_sign : {depth : ℕ} (text : List ℕ) → is_opening text ≡ false → is_closing text ≡ false → Stays depth (Sign text)
stays_sign text a b = stays_one (λ w h. (sign_opens text w h ∙ a, sign_closes text w h ∙ b))

pub stays_reserved : {depth : ℕ} (text : List ℕ) → Stays depth (Reserved text)
stays_reserved text = stays_one (λ w h. no_sign_other w (reserved_no_sign w.kind h.0))

pub stays_named : {depth : ℕ} (text : List ℕ) → Stays depth (Named text)
stays_named text = stays_one (λ w h. no_sign_other w (ap is_sign h.0))

pub stays_kind : {depth : ℕ} (k : Kind) → is_sign k ≡ false → Stays depth (One (λ w. w.kind ≡ k))
stays_kind k none = stays_one (λ w h. no_sign_other w (ap is_sign h ∙ none))

pub stays_both : {depth : ℕ} {P Q : Grammar} → Stays depth P → Stays depth Q → Stays depth (P ⨟ Q)
stays_both {depth = depth} p q ws h = subst (Within depth) (sym h.joined) (both_within (p h.front h.first) (q h.back h.second))

pub stays_either : {depth : ℕ} {P Q : Grammar} → Stays depth P → Stays depth Q → Stays depth (Either P Q)
stays_either p q ws (inl h) = p ws h
stays_either p q ws (inr h) = q ws h

pub stays_where : {depth : ℕ} {fact : Type 0} {P : Grammar} → Stays depth P → Stays depth (Where fact P)
stays_where p ws h = p ws h.1

pub stays_each : {A : Type 0} {depth : ℕ} (Of : A → Grammar) → ((x : A) → Stays depth (Of x)) → (xs : List A) → Stays depth (Each Of xs)
stays_each Of p [] = stays_empty
stays_each Of p (x ∷ xs) = stays_both (p x) (stays_each Of p xs)

pub stays_first : {A : Type 0} {depth : ℕ} (First Later : A → Grammar) → ((x : A) → Stays depth (First x)) → ((x : A) → Stays depth (Later x)) → (xs : List A) → Stays depth (FirstThenEach First Later xs)
stays_first First Later p q [] ws h = absurd h
stays_first First Later p q (x ∷ xs) ws h = stays_both (p x) (stays_each Later q xs) ws h

pub stays_separated : {A : Type 0} {depth : ℕ} (Separator : Grammar) (Of : A → Grammar) → Stays depth Separator → ((x : A) → Stays depth (Of x)) → (xs : List A) → Stays depth (Separated Separator Of xs)
stays_separated Separator Of s p = stays_first Of (λ x. Separator ⨟ Of x) p (λ x. stays_both s (p x))

pub stays_commas : {A : Type 0} {depth : ℕ} (Of : A → Grammar) → ((x : A) → Stays depth (Of x)) → (xs : List A) → Stays depth (Commas Of xs)
stays_commas Of p [] = stays_empty
stays_commas Of p (x ∷ xs) = stays_separated (Sign (codes ",")) Of (stays_sign (codes ",") refl refl) p (x ∷ xs)

-- an opening sign, words that stay within a depth, and a closing sign stay within one more
within_brackets : {depth : ℕ} {front inside back : List Word} (opening closing : List ℕ) → is_opening opening ≡ true → is_opening closing ≡ false → is_closing closing ≡ true → Sign opening front → Within depth inside → Sign closing back → Within (suc depth) (front ++ (inside ++ back))
within_brackets {depth = depth} {inside = inside} opening closing a b c f p g =
    let o = brackets_within f.word g.word (sign_opens opening f.word f.is_this ∙ a) (sign_opens closing g.word g.is_this ∙ b) (sign_closes closing g.word g.is_this ∙ c) p in
    let whole : (front back : List Word) → front ≡ f.word ∷ [] → back ≡ g.word ∷ [] → Within (suc depth) (front ++ (inside ++ back)) = λ front back h k. subst (λ ws. Within (suc depth) (ws ++ (inside ++ back))) (sym h) (subst (λ ws. Within (suc depth) (f.word ∷ (inside ++ ws))) (sym k) o) in
    whole _ _ f.alone g.alone

pub enclosed : {depth : ℕ} {front inside back : List Word} (opening closing : List ℕ) → is_opening opening ≡ true → is_opening closing ≡ false → is_closing closing ≡ true → Sign opening front → Within depth inside → Sign closing back → Within (suc depth) (front ++ inside ++ back)
enclosed {depth = depth} {front = front} {inside = inside} {back = back} opening closing a b c f p g = subst (Within (suc depth)) (sym (append_assoc front inside back)) (within_brackets opening closing a b c f p g)

-- the same after words that stay within that depth
pub enclosed_after : {depth : ℕ} {name front inside back : List Word} (opening closing : List ℕ) → is_opening opening ≡ true → is_opening closing ≡ false → is_closing closing ≡ true → Within (suc depth) name → Sign opening front → Within depth inside → Sign closing back → Within (suc depth) (name ++ front ++ inside ++ back)
enclosed_after {depth = depth} {name = name} {front = front} {inside = inside} {back = back} opening closing a b c n f p g =
    let e : name ++ front ++ inside ++ back ≡ name ++ (front ++ (inside ++ back)) = append_assoc (name ++ front) inside back ∙ append_assoc name front (inside ++ back) in
    subst (Within (suc depth)) (sym e) (both_within n (within_brackets opening closing a b c f p g))

pub stays_bracketed : (opening closing : List ℕ) (depth : ℕ) (Between : ℕ → Grammar) → is_opening opening ≡ true → is_opening closing ≡ false → is_closing closing ≡ true → ((inner : ℕ) → Stays inner (Between inner)) → Stays depth (Bracketed opening closing depth Between)
stays_bracketed opening closing zero Between a b c p ws h = absurd h
stays_bracketed opening closing (suc depth) Between a b c p ws h =
    let s = h.second in
    let e : ws ≡ h.front ++ (s.front ++ s.back) = h.joined ∙ ap (λ l. h.front ++ l) s.joined in
    subst (Within (suc depth)) (sym e) (within_brackets opening closing a b c h.first (p depth s.front s.first) s.second)

pub stays_round : (depth : ℕ) (Between : ℕ → Grammar) → ((inner : ℕ) → Stays inner (Between inner)) → Stays depth (Bracketed (codes "(") (codes ")") depth Between)
stays_round depth Between = stays_bracketed (codes "(") (codes ")") depth Between refl refl refl

pub stays_square : (depth : ℕ) (Between : ℕ → Grammar) → ((inner : ℕ) → Stays inner (Between inner)) → Stays depth (Bracketed (codes "[") (codes "]") depth Between)
stays_square depth Between = stays_bracketed (codes "[") (codes "]") depth Between refl refl refl

pub stays_curly : (depth : ℕ) (Between : ℕ → Grammar) → ((inner : ℕ) → Stays inner (Between inner)) → Stays depth (Bracketed (codes "{") (codes "}") depth Between)
stays_curly depth Between = stays_bracketed (codes "{") (codes "}") depth Between refl refl refl

-- two touching signs that are no brackets
pub stays_touching : {depth : ℕ} (one two : List ℕ) → is_opening one ≡ false → is_closing one ≡ false → is_opening two ≡ false → is_closing two ≡ false → Stays depth (TwoTouching (IsSign one) (IsSign two))
stays_touching {depth = depth} one two a b c d ws h =
    let first = other_within depth h.one (sign_opens one h.one h.is_first ∙ a) (sign_closes one h.one h.is_first ∙ b) in
    let second = other_within depth h.other (sign_opens two h.other h.is_second ∙ c) (sign_closes two h.other h.is_second ∙ d) in
    subst (Within depth) (sym h.both) (both_within first second)
