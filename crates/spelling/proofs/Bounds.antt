-- Where readers refuse as too deep: what stands before the place is put together from what each reader took.
use Rattle.std.proofs.Common.{◌≡◌, ℕ, zero, suc, ◌+◌, true, false, List, [], ◌∷◌, ◌++◌, bytes_eq, codes, Result, Ok, Err, refl, ap, sym, subst, ◌∙◌, append_assoc, arith}
use Rattle.std.specs.Result.{IsErrAnd}
use Rattle.std.specs.Prelude.{IfErr}
use Rattle.p4_lexer.specs.declared.token.Kind.{Kind}
use Rattle.spelling.specs.Words.{Word}
use Rattle.spelling.specs.Grammar.{Grammar, Empty, Where, ◌⨟◌, One, TwoTouching, Each, Commas, Sign, Reserved, Named, Begins, IsSign, Bracketed, is_sign}
use Rattle.spelling.specs.Reading.{MayTake, MayRefuse, MayNotOpen, IsWant}
use Rattle.spelling.specs.Brackets.{is_opening, open_behind}
use Rattle.spelling.specs.Bounds.{IfTooDeep, IsNeverDeep, Opens, IsInLine, AreInLine, Line, Stops, OpensNext}
use Rattle.spelling.specs.declared.error.SyntaxError.{SyntaxError}
use Rattle.spelling.specs.declared.error.SyntaxError.TheVariants as error
use Rattle.spelling.proofs.Balance.{Stays, behind_both, open_sign, sign_opens}
use Rattle.spelling.proofs.Only.{begins_as, no_sign, reserved_no_sign}

-- the end of a `?`
pub deep_answers : {A : Type 0} (Passed : Type 0) (e : SyntaxError) (r : Result A SyntaxError) → IsErrAnd r (λ d. d ≡ e) → IfTooDeep Passed e → IfErr r (IfTooDeep Passed)
deep_answers Passed e (Ok y) is h = absurd is
deep_answers Passed e (Err d) is h = subst (IfTooDeep Passed) (sym is) h

pub if_deep : {Passed Holds : Type 0} (e : SyntaxError) → (Passed → Holds) → IfTooDeep Passed e → IfTooDeep Holds e
if_deep error.Memory f h = tt
if_deep (error.NotProgram token) f h = tt
if_deep (error.TooDeep token) f h = f h

-- the same of an answer that is handed on
pub deep_as : {A : Type 0} {Passed Holds : Type 0} (r : Result A SyntaxError) → (Passed → Holds) → IfErr r (IfTooDeep Passed) → IfErr r (IfTooDeep Holds)
deep_as (Ok y) f h = h
deep_as (Err e) f h = if_deep e f h

-- where it holds, any refusal will do
pub holds_deep : {Passed : Type 0} (e : SyntaxError) → Passed → IfTooDeep Passed e
holds_deep error.Memory h = tt
holds_deep (error.NotProgram token) h = tt
holds_deep (error.TooDeep token) h = h

pub never_deep : (Holds : Type 0) (e : SyntaxError) → IsNeverDeep e → IfTooDeep Holds e
never_deep Holds e h = if_deep e (λ no. absurd no) h

pub want_deep : (Holds : Type 0) (e : SyntaxError) → IsWant e → IfTooDeep Holds e
want_deep Holds error.Memory h = tt
want_deep Holds (error.NotProgram token) h = tt
want_deep Holds (error.TooDeep token) h = absurd h

pub refused_deep : (Holds Stands : Type 0) (at : ℕ) (e : SyntaxError) → MayRefuse Stands at e → IfTooDeep Holds e
refused_deep Holds Stands at error.Memory h = tt
refused_deep Holds Stands at (error.NotProgram token) h = tt
refused_deep Holds Stands at (error.TooDeep token) h = absurd h

-- what more stands before
pub stop_past : {Front Begun Whole Next : Grammar} {a b c : List Word} → ((front back : List Word) → Front front → Begun back → Whole (front ++ back)) → MayTake Front a b → Stops Begun Next b c → Stops Whole Next a c
stop_past {c = c} f m s =
    record {
      front = m.front ++ s.front;
      joined = m.joined ∙ ap (λ ws. m.front ++ ws) s.joined ∙ sym (append_assoc m.front s.front c);
      begun = f m.front s.front m.spelled s.begun;
      next = s.next;
    }

pub stop_as : {Begun Whole Next : Grammar} {a c : List Word} → ((ws : List Word) → Begun ws → Whole ws) → Stops Begun Next a c → Stops Whole Next a c
stop_as f s = record { front = s.front; joined = s.joined; begun = f s.front s.begun; next = s.next }

-- brackets that are open
pub opens_none : Opens 0 []
opens_none = record { counted = λ n. omega arith }

pub opens_both : (j k : ℕ) (front back : List Word) → Opens j front → Opens k back → Opens (j + k) (front ++ back)
opens_both j k front back p q = record { counted = λ n. let e = q.counted (n + j) in behind_both n front back ∙ ap (λ m. open_behind m back) (p.counted n) ∙ e ∙ omega arith }

pub opens_even : {Of : Grammar} (depth : ℕ) → Stays depth Of → (ws : List Word) → Of ws → Opens 0 ws
opens_even depth stays ws h = record { counted = λ n. let e = (stays ws h).balanced n in omega (arith, e) }

pub opens_sign : (text : List ℕ) → is_opening text ≡ true → (ws : List Word) → Sign text ws → Opens 1 ws
opens_sign text is ws h = record { counted = λ n. open_sign text n ws is h }

-- an opening bracket stands where a reader of it refuses as too deep, and none may be open
pub forbidden : (text : List ℕ) → is_opening text ≡ true → (depth at : ℕ) (a : List Word) (e : SyntaxError) → MayNotOpen (Begins (IsSign text) a) depth at e → IfTooDeep (OpensNext a × (depth ≡ 0)) e
forbidden text is depth at a error.Memory r = absurd r
forbidden text is depth at a (error.NotProgram token) r = tt
forbidden text is depth at a (error.TooDeep token) r = (begins_as (λ w h. sign_opens text w h ∙ is) a r.1, r.2)

-- the reader stays there, behind words that leave none open
pub stop_open : (depth : ℕ) (text : List ℕ) (at : ℕ) {a b c : List Word} (e : SyntaxError) → is_opening text ≡ true → MayTake (Opens 0) a b → c ≡ b → MayNotOpen (Begins (IsSign text) b) depth at e → IfTooDeep (Stops (Opens depth) OpensNext a c) e
stop_open depth text at {a = a} {b = b} e is m same r =
    if_deep e
    (λ h. subst (Stops (Opens depth) OpensNext a) (sym same) record { front = m.front; joined = m.joined; begun = subst (λ n. Opens n m.front) (sym h.1) m.spelled; next = h.0 })
    (forbidden text is depth at b e r)

-- no words
pub none_open : {a : List Word} → MayTake (Opens 0) a a
none_open = record { front = []; joined = refl; spelled = opens_none }

-- between two places
pub even : {Of : Grammar} {a b : List Word} (depth : ℕ) → Stays depth Of → MayTake Of a b → MayTake (Opens 0) a b
even depth stays m = record { front = m.front; joined = m.joined; spelled = opens_even depth stays m.front m.spelled }

pub one_open : {a b : List Word} (text : List ℕ) → is_opening text ≡ true → MayTake (Sign text) a b → MayTake (Opens 1) a b
one_open text is m = record { front = m.front; joined = m.joined; spelled = opens_sign text is m.front m.spelled }

pub join : {P Q R : Grammar} {a b c : List Word} → ((front back : List Word) → P front → Q back → R (front ++ back)) → MayTake P a b → MayTake Q b c → MayTake R a c
join {c = c} f p q =
    record {
      front = p.front ++ q.front;
      joined = p.joined ∙ ap (λ ws. p.front ++ ws) q.joined ∙ sym (append_assoc p.front q.front c);
      spelled = f p.front q.front p.spelled q.spelled;
    }

pub opens_then : (j k : ℕ) {a b c : List Word} → MayTake (Opens j) a b → MayTake (Opens k) b c → MayTake (Opens (j + k)) a c
opens_then j k p q = join (opens_both j k) p q

-- behind so many open brackets, of which a depth allows so many
pub stop_opens : (depth j k : ℕ) {Next : Grammar} {a b c : List Word} → depth ≡ j + k → MayTake (Opens j) a b → Stops (Opens k) Next b c → Stops (Opens depth) Next a c
stop_opens depth j k {Next = Next} {a = a} {c = c} e m s = subst (λ n. Stops (Opens n) Next a c) (sym e) (stop_past (opens_both j k) m s)

-- words in one line
pub line_none : Line 0 []
line_none = record { opened = opens_none; in_line = tt }

pub both_in_line : (front back : List Word) → AreInLine front → AreInLine back → AreInLine (front ++ back)
both_in_line [] back p q = q
both_in_line (w ∷ front) back p q = (p.0, both_in_line front back p.1 q)

pub line_both : (j k : ℕ) (front back : List Word) → Line j front → Line k back → Line (j + k) (front ++ back)
line_both j k front back p q = record { opened = opens_both j k front back p.opened q.opened; in_line = both_in_line front back p.in_line q.in_line }

abbrev pub InLine : Grammar → Type 0
InLine Of = (ws : List Word) → Of ws → AreInLine ws

pub line_even : {Of : Grammar} (depth : ℕ) → Stays depth Of → InLine Of → (ws : List Word) → Of ws → Line 0 ws
line_even depth stays inside ws h = record { opened = opens_even depth stays ws h; in_line = inside ws h }

pub line_then : (j k : ℕ) {a b c : List Word} → MayTake (Line j) a b → MayTake (Line k) b c → MayTake (Line (j + k)) a c
line_then j k p q = join (line_both j k) p q

pub stop_line : (depth j k : ℕ) {Next : Grammar} {a b c : List Word} → depth ≡ j + k → MayTake (Line j) a b → Stops (Line k) Next b c → Stops (Line depth) Next a c
stop_line depth j k {Next = Next} {a = a} {c = c} e m s = subst (λ n. Stops (Line n) Next a c) (sym e) (stop_past (line_both j k) m s)

pub line_opens : (count : ℕ) (ws : List Word) → Line count ws → Opens count ws
line_opens count ws l = l.opened

pub is_in_line : (text : List ℕ) (w : Word) → bytes_eq text (codes ";") ≡ false → bytes_eq text (codes "{") ≡ false → bytes_eq text (codes "}") ≡ false → IsSign text w → IsInLine w
is_in_line text w a b c h = (no_sign text (codes ";") (w ∷ []) a h, no_sign text (codes "{") (w ∷ []) b h, no_sign text (codes "}") (w ∷ []) c h)

no_sign_in_line : (w : Word) → is_sign w.kind ≡ false → IsInLine w
no_sign_in_line w none = (λ h. let g = h.0 in cc, λ h. let g = h.0 in cc, λ h. let g = h.0 in cc)

-- each grammar of the algebra
pub in_empty : InLine Empty
in_empty ws h = subst (AreInLine) (sym h) tt

pub in_one : {F : Word → Type 0} → ((w : Word) → F w → IsInLine w) → InLine (One F)
in_one f ws h = subst (AreInLine) (sym h.alone) (f h.word h.is_this, tt)

pub in_sign : (text : List ℕ) → bytes_eq text (codes ";") ≡ false → bytes_eq text (codes "{") ≡ false → bytes_eq text (codes "}") ≡ false → InLine (Sign text)
in_sign text a b c = in_one (λ w h. is_in_line text w a b c h)

pub in_reserved : (text : List ℕ) → InLine (Reserved text)
in_reserved text = in_one (λ w h. no_sign_in_line w (reserved_no_sign w.kind h.0))

pub in_named : (text : List ℕ) → InLine (Named text)
in_named text = in_one (λ w h. no_sign_in_line w (ap is_sign h.0))

pub in_kind : (k : Kind) → is_sign k ≡ false → InLine (One (λ w. w.kind ≡ k))
in_kind k none = in_one (λ w h. no_sign_in_line w (ap is_sign h ∙ none))

pub in_touching : (one two : List ℕ) → ((w : Word) → IsSign one w → IsInLine w) → ((w : Word) → IsSign two w → IsInLine w) → InLine (TwoTouching (IsSign one) (IsSign two))
in_touching one two f g ws h = subst (AreInLine) (sym h.both) (f h.one h.is_first, (g h.other h.is_second, tt))

pub in_both : {P Q : Grammar} → InLine P → InLine Q → InLine (P ⨟ Q)
in_both p q ws h = subst (AreInLine) (sym h.joined) (both_in_line h.front h.back (p h.front h.first) (q h.back h.second))

pub in_where : {fact : Type 0} {P : Grammar} → InLine P → InLine (Where fact P)
in_where p ws h = p ws h.1

pub in_each : {A : Type 0} (Of : A → Grammar) → ((x : A) → InLine (Of x)) → (xs : List A) → InLine (Each Of xs)
in_each Of p [] = in_empty
in_each Of p (x ∷ xs) = in_both (p x) (in_each Of p xs)

pub in_commas : {A : Type 0} (Of : A → Grammar) → ((x : A) → InLine (Of x)) → (xs : List A) → InLine (Commas Of xs)
in_commas Of p [] = in_empty
in_commas Of p (x ∷ xs) = in_both (p x) (in_each (λ y. Sign (codes ",") ⨟ Of y) (λ y. in_both (in_sign (codes ",") refl refl refl) (p y)) xs)

pub in_brackets : (opening closing : List ℕ) (depth : ℕ) (Between : ℕ → Grammar) → InLine (Sign opening) → InLine (Sign closing) → ((inner : ℕ) → InLine (Between inner)) → InLine (Bracketed opening closing depth Between)
in_brackets opening closing zero Between o c p ws h = absurd h
in_brackets opening closing (suc depth) Between o c p ws h = in_both o (in_both (p depth) c) ws h

pub in_round : (depth : ℕ) (Between : ℕ → Grammar) → ((inner : ℕ) → InLine (Between inner)) → InLine (Bracketed (codes "(") (codes ")") depth Between)
in_round depth Between = in_brackets (codes "(") (codes ")") depth Between (in_sign (codes "(") refl refl refl) (in_sign (codes ")") refl refl refl)

pub in_square : (depth : ℕ) (Between : ℕ → Grammar) → ((inner : ℕ) → InLine (Between inner)) → InLine (Bracketed (codes "[") (codes "]") depth Between)
in_square depth Between = in_brackets (codes "[") (codes "]") depth Between (in_sign (codes "[") refl refl refl) (in_sign (codes "]") refl refl refl)

-- a line between two places
pub in_line : {Of : Grammar} {a b : List Word} (depth : ℕ) → Stays depth Of → InLine Of → MayTake Of a b → MayTake (Line 0) a b
in_line depth stays inside m = record { front = m.front; joined = m.joined; spelled = line_even depth stays inside m.front m.spelled }

-- an opening bracket in it
pub line_open : {a b : List Word} (text : List ℕ) → is_opening text ≡ true → InLine (Sign text) → MayTake (Sign text) a b → MayTake (Line 1) a b
line_open text is inside m = record { front = m.front; joined = m.joined; spelled = record { opened = opens_sign text is m.front m.spelled; in_line = inside m.front m.spelled } }
