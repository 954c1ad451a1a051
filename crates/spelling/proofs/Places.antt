-- What the words from a place on begin with, and the place behind what was read.
use Rattle.std.proofs.Common.{◌≡◌, ℕ, zero, suc, ◌+◌, ◌-◌, ◌^◌, ◌≤◌, min, inl, inr, List, [], ◌∷◌, ◌++◌, drop, take, length, refl, sym, subst, ◌∙◌, arith, add-one, ap, append_assoc, length-append}
use Rattle.p4_lexer.specs.declared.token.Token.{Token}
use Rattle.std.proofs.Math.Seq.{drop-append_seam}
use Rattle.std.proofs.lemmas.Bool.{cases_lt}
use Rattle.std.proofs.lemmas.List.{drop-drop, drop-map, length-map, take-append-drop}
use Rattle.spelling.specs.Words.{Word, word_of, words}
use Rattle.spelling.specs.Grammar.{One, TwoTouching, Begins, BeginTouching}
use Rattle.spelling.specs.Reading.{Takes, IsSameRefusal}
use Rattle.spelling.specs.Bounds.{IfTooDeep, IfTooDeepAt, PassedAt}
use Rattle.spelling.specs.declared.error.SyntaxError.{SyntaxError}
use Rattle.spelling.specs.declared.error.SyntaxError.TheVariants as error

pub takes_word : {IsThis : Word → Type 0} {word : Word} {before after : List Word} → before ≡ word ∷ after → IsThis word → Takes (One IsThis) before after
takes_word {word = word} {after = after} e h =
    record {
      front = word ∷ [];
      joined = e;
      spelled = record { word = word; alone = refl; is_this = h };
      fewer = omega (arith, ap length e);
    }

begins_more : (IsThis : Word → Type 0) (text : List ℕ) (tokens : List Token) (n : ℕ) → Begins IsThis (words text (drop n tokens)) → Takes (One IsThis) (words text (drop n tokens)) (words text (drop (suc n) tokens))
begins_more IsThis text [] zero h = absurd h
begins_more IsThis text [] (suc n) h = absurd h
begins_more IsThis text (t ∷ ts) zero h = takes_word refl h
begins_more IsThis text (t ∷ ts) (suc n) h = begins_more IsThis text ts n h

pub begins_takes : (IsThis : Word → Type 0) (text : List ℕ) (tokens : List Token) (n : ℕ) → Begins IsThis (words text (drop n tokens)) → Takes (One IsThis) (words text (drop n tokens)) (words text (drop (n + 1) tokens))
begins_takes IsThis text tokens n h = rw add-one (begins_more IsThis text tokens n h)

pub none_ahead : (text : List ℕ) (tokens : List Token) (n : ℕ) → length tokens ≤ n → words text (drop n tokens) ≡ []
none_ahead text [] zero h = refl
none_ahead text [] (suc n) h = refl
none_ahead text (t ∷ ts) zero h = absurd (omega (arith, h))
none_ahead text (t ∷ ts) (suc n) h = none_ahead text ts n (omega (arith, h))

pub past_all : (text : List ℕ) (tokens : List Token) (n : ℕ) → words text (drop n tokens) ≡ [] → length tokens ≤ n
past_all text [] n h = omega arith
past_all text (t ∷ ts) zero h = cc
past_all text (t ∷ ts) (suc n) h = let e = past_all text ts n h in omega (arith, e)

-- two words that touch
touching_word : {IsFirst IsSecond : Word → Type 0} (ws : List Word) → BeginTouching IsFirst IsSecond ws → Takes (TwoTouching IsFirst IsSecond) ws (drop 2 ws)
touching_word [] h = absurd h
touching_word (one ∷ []) h = absurd h
touching_word (one ∷ other ∷ ws) h =
    record {
      front = one ∷ other ∷ [];
      joined = refl;
      spelled = record { one = one; other = other; both = refl; is_first = h.0; is_second = h.1; touch = h.2 };
      fewer = omega arith;
    }

pub words_later : (text : List ℕ) (tokens : List Token) (n c : ℕ) → words text (drop (n + c) tokens) ≡ drop c (words text (drop n tokens))
words_later text tokens n c = sym (drop-map (word_of text) c (drop n tokens) ∙ ap (words text) (drop-drop c n tokens))

pub touching_takes : (IsFirst IsSecond : Word → Type 0) (text : List ℕ) (tokens : List Token) (n : ℕ) → BeginTouching IsFirst IsSecond (words text (drop n tokens)) → Takes (TwoTouching IsFirst IsSecond) (words text (drop n tokens)) (words text (drop (n + 2) tokens))
touching_takes IsFirst IsSecond text tokens n h = rw (words_later text tokens n 2) (touching_word (words text (drop n tokens)) h)

pub words_within : (text : List ℕ) (tokens : List Token) (n most : ℕ) → length tokens ≤ most → words text (drop (min n most) tokens) ≡ words text (drop n tokens)
words_within text tokens n most few =
    elim (cases_lt n most) [
      | inl h ↦ let e : min n most ≡ n = omega (arith, h) in ap (λ m. words text (drop m tokens)) e
      | inr h ↦ let e : min n most ≡ most = omega (arith, h) in ap (λ m. words text (drop m tokens)) e ∙ none_ahead text tokens most few ∙ sym (none_ahead text tokens n (omega (arith, few, h)))
    ]

-- the last words of a list, by their number
last_words : (all front back : List Word) → all ≡ front ++ back → drop (length all - length back) all ≡ back
last_words all front back is =
    let long : length all ≡ length front + length back = ap length is ∙ length-append front back in
    let few : length all - length back ≡ length front = omega (arith, long) in
    ap (λ n. drop n all) few ∙ ap (drop (length front)) is ∙ drop-append_seam front back

-- the place behind what was read, from how many tokens are left
pub place_behind : (text : List ℕ) (tokens : List Token) (at : ℕ) (front back : List Word) → words text (drop at tokens) ≡ front ++ back → words text (drop (length tokens - length back) tokens) ≡ back
place_behind text tokens at front back is =
    let all = words text tokens in
    let whole : all ≡ (take at all ++ front) ++ back =
    sym (take-append-drop at all) ∙ ap (λ l. take at all ++ l) (drop-map (word_of text) at tokens ∙ is) ∙ sym (append_assoc (take at all) front back)
    in
    let long : length all ≡ length tokens = length-map tokens (word_of text) in
    sym (drop-map (word_of text) (length tokens - length back) tokens) ∙ ap (λ n. drop (n - length back) all) (sym long) ∙ last_words all (take at all ++ front) back whole

-- where a bound is passed behind what was read
pub passed_at : (Passed : List Word → List Word → Type 0) (text : List ℕ) (tokens : List Token) (at : ℕ) (front after : List Word) → words text (drop at tokens) ≡ front ++ after → Passed (words text (drop at tokens)) after → PassedAt Passed text tokens at (min (length tokens - length after) (2 ^ 32 - 1))
passed_at Passed text tokens at front after is h =
    record {
      next = length tokens - length after;
      within = omega arith;
      named = refl;
      passed = subst (Passed (words text (drop at tokens))) (sym (place_behind text tokens at front after is)) h;
    }

-- a refusal of the same kind that names the token of the place
pub named_deep : {Stopped : Type 0} (Passed : ℕ → Type 0) (named : ℕ) (d e : SyntaxError) → (Stopped → Passed named) → IsSameRefusal d e → IfTooDeepAt (λ token. token ≡ named) e → IfTooDeep Stopped d → IfTooDeepAt Passed e
named_deep Passed named d error.Memory f same is h = tt
named_deep Passed named d (error.NotProgram token) f same is h = tt
named_deep Passed named error.Memory (error.TooDeep token) f same is h = absurd same
named_deep Passed named (error.NotProgram other) (error.TooDeep token) f same is h = absurd same
named_deep Passed named (error.TooDeep other) (error.TooDeep token) f same is h = subst Passed (sym is) (f h)
