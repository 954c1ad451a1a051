-- What a grammar spells, another spells too where no more brackets are open than a depth allows.
use Rattle.std.proofs.Common.{◌≡◌, ℕ, zero, suc, ◌+◌, ◌-◌, ◌≤◌, Bool, true, false, List, [], ◌∷◌, ◌++◌, cond, refl, sym, ap, subst, ◌∙◌, append_assoc, arith}
use Rattle.spelling.specs.Words.{Word}
use Rattle.spelling.specs.Grammar.{Grammar, Where, ◌⨟◌, Sign, Bracketed}
use Rattle.spelling.specs.Brackets.{is_opening, opens, closes, open_at, open_after, open_behind, most_open_from}
use Rattle.spelling.proofs.Balance.{Within, Stays, sign_opens}

abbrev pub Fits : ℕ → Grammar → Grammar → Type 0
Fits more P Q = (ws : List Word) (n : ℕ) → P ws → most_open_from n ws ≤ n + more → Q ws

pub fits_itself : (more : ℕ) (P : Grammar) → Fits more P P
fits_itself more P ws n h le = h

-- what is open in each of two lists in a row
pub first_of_two : (n k : ℕ) (a b : List Word) → most_open_from n (a ++ b) ≤ k → most_open_from n a ≤ k
first_of_two n k [] b le = omega arith
first_of_two n k (w ∷ a) b le =
    let later = first_of_two (open_after n w) k a b (omega (arith, le)) in
    omega (arith, le, later)

second_of_two : (n k : ℕ) (a b : List Word) → most_open_from n (a ++ b) ≤ k → most_open_from (open_behind n a) b ≤ k
second_of_two n k [] b le = le
second_of_two n k (w ∷ a) b le = second_of_two (open_after n w) k a b (omega (arith, le))

pub second_after : {depth : ℕ} (n k : ℕ) {a : List Word} (b : List Word) → Within depth a → most_open_from n (a ++ b) ≤ k → most_open_from n b ≤ k
second_after n k {a = a} b p le = subst (λ m. most_open_from m b ≤ k) (p.balanced n) (second_of_two n k a b le)

pub as_parts : (n k : ℕ) {ws parts : List Word} → ws ≡ parts → most_open_from n ws ≤ k → most_open_from n parts ≤ k
as_parts n k e le = subst (λ l. most_open_from n l ≤ k) e le

pub fits_both : (more : ℕ) {depth : ℕ} {P Q R S : Grammar} → Stays depth P → Fits more P Q → Fits more R S → Fits more (P ⨟ R) (Q ⨟ S)
fits_both more stays f g ws n h le =
    let parts = as_parts n (n + more) h.joined le in
    record {
      front = h.front;
      back = h.back;
      joined = h.joined;
      first = f h.front n h.first (first_of_two n (n + more) h.front h.back parts);
      second = g h.back n h.second (second_after n (n + more) h.back (stays h.front h.first) parts);
    }

pub fits_where : (more : ℕ) {fact : Type 0} {P Q : Grammar} → Fits more P Q → Fits more (Where fact P) (Where fact Q)
fits_where more f ws n h le = (h.0, f ws n h.1 le)

opened_at : (n : ℕ) (opening closing : Bool) → opening ≡ true → (cond opening (n + 1) n ≡ n + 1) × (cond opening (n + 1) (cond closing (n - 1) n) ≡ n + 1)
opened_at n true closing h = (refl, refl)
opened_at n false closing h = absurd cc

-- behind an opening sign one more is open, so that the depth isn't 0
pub record Inside (more n : ℕ) (inside : List Word) : Type 0 where
  pub inner : ℕ
  pub one_more : more ≡ suc inner
  pub fits : most_open_from (n + 1) inside ≤ (n + 1) + inner

inside_of : (more n : ℕ) (inside : List Word) → (n + 1 ≤ n + more) → most_open_from (n + 1) inside ≤ n + more → Inside more n inside
inside_of zero n inside le fits = absurd (omega (arith, le))
inside_of (suc inner) n inside le fits = record { inner = inner; one_more = refl; fits = omega (arith, fits) }

pub inside_brackets : (opening : List ℕ) (more n : ℕ) (front inside back : List Word) → is_opening opening ≡ true → Sign opening front → most_open_from n (front ++ inside ++ back) ≤ n + more → Inside more n inside
inside_brackets opening more n front inside back is f le =
    let o = opened_at n (opens f.word) (closes f.word) (sign_opens opening f.word f.is_this ∙ is) in
    let e : front ++ inside ++ back ≡ f.word ∷ (inside ++ back) = ap (λ l. l ++ inside ++ back) f.alone in
    let whole : most_open_from n (f.word ∷ (inside ++ back)) ≤ n + more = as_parts n (n + more) e le in
    let at : open_at n f.word ≡ n + 1 = o.0 in
    let behind : most_open_from (open_after n f.word) (inside ++ back) ≤ n + more = omega (arith, whole) in
    let after : most_open_from (n + 1) (inside ++ back) ≤ n + more = subst (λ m. most_open_from m (inside ++ back) ≤ n + more) o.1 behind in
    inside_of more n inside (omega (arith, whole, at)) (first_of_two (n + 1) (n + more) inside back after)

pub fits_bracketed : (opening closing : List ℕ) (depth more : ℕ) (P Q : ℕ → Grammar) → is_opening opening ≡ true → ((inner outer : ℕ) → Fits outer (P inner) (Q outer)) → Fits more (Bracketed opening closing depth P) (Bracketed opening closing more Q)
fits_bracketed opening closing zero more P Q is f ws n h le = absurd h
fits_bracketed opening closing (suc depth) more P Q is f ws n h le =
    let s = h.second in
    let e : ws ≡ h.front ++ s.front ++ s.back = h.joined ∙ ap (λ l. h.front ++ l) s.joined ∙ sym (append_assoc h.front s.front s.back) in
    let i = inside_brackets opening more n h.front s.front s.back is h.first (as_parts n (n + more) e le) in
    let inside : Q i.inner s.front = f depth i.inner s.front (n + 1) s.first i.fits in
    let made : (Sign opening ⨟ Q i.inner ⨟ Sign closing) ws = record { front = h.front; back = h.back; joined = h.joined; first = h.first; second = record { front = s.front; back = s.back; joined = s.joined; first = inside; second = s.second } } in
    subst (λ m. Bracketed opening closing m Q ws) (sym i.one_more) made
