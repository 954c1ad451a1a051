-- How what two readers take makes what both in a row take.
use Rattle.std.proofs.Common.{◌≡◌, ℕ, suc, ◌+◌, ◌<◌, ◌≤◌, List, [], ◌∷◌, ◌++◌, length, refl, arith, ap, sym, subst, ◌∙◌, append_assoc, append-nil, add-one, length-append}
use Rattle.spelling.specs.Words.{Word}
use Rattle.spelling.specs.Grammar.{Grammar, Empty, Where, ◌⨟◌, Each, FirstThenEach, Sign, Bracketed}
use Rattle.spelling.specs.Reading.{Takes, MayTake}

pub may : {Of : Grammar} {a b : List Word} → Takes Of a b → MayTake Of a b
may t = record { front = t.front; joined = t.joined; spelled = t.spelled }

pub no_longer : {Of : Grammar} {a b : List Word} → MayTake Of a b → length b ≤ length a
no_longer {b = b} t = omega (arith, ap length t.joined, length-append t.front b)

pub may_both : {P Q : Grammar} {a b c : List Word} → MayTake P a b → MayTake Q b c → MayTake (P ⨟ Q) a c
may_both {c = c} p q =
    record {
      front = p.front ++ q.front;
      joined = p.joined ∙ ap (λ ws. p.front ++ ws) q.joined ∙ sym (append_assoc p.front q.front c);
      spelled = record { front = p.front; back = q.front; joined = refl; first = p.spelled; second = q.spelled };
    }

strict : {Of : Grammar} {a b : List Word} → MayTake Of a b → length b < length a → Takes Of a b
strict t fewer = record { front = t.front; joined = t.joined; spelled = t.spelled; fewer = fewer }

-- the first takes a word, the second perhaps none
pub takes_may : {P Q : Grammar} {a b c : List Word} → Takes P a b → MayTake Q b c → Takes (P ⨟ Q) a c
takes_may p q = strict (may_both (may p) q) (omega (arith, p.fewer, no_longer q))

-- the first takes perhaps none, the second a word
pub may_takes : {P Q : Grammar} {a b c : List Word} → MayTake P a b → Takes Q b c → Takes (P ⨟ Q) a c
may_takes p q = strict (may_both p (may q)) (omega (arith, no_longer p, q.fewer))

pub takes_both : {P Q : Grammar} {a b c : List Word} → Takes P a b → Takes Q b c → Takes (P ⨟ Q) a c
takes_both p q = takes_may p (may q)

-- the same words, spelled by another grammar
pub takes_as : {P Q : Grammar} {a b : List Word} → ((ws : List Word) → P ws → Q ws) → Takes P a b → Takes Q a b
takes_as f t = record { front = t.front; joined = t.joined; spelled = f t.front t.spelled; fewer = t.fewer }

-- the same words, under a fact that holds
pub takes_where : {fact : Type 0} {Of : Grammar} {a b : List Word} → fact → Takes Of a b → Takes (Where fact Of) a b
takes_where holds t = record { front = t.front; joined = t.joined; spelled = (holds, t.spelled); fewer = t.fewer }

pub may_where : {fact : Type 0} {Of : Grammar} {a b : List Word} → fact → MayTake Of a b → MayTake (Where fact Of) a b
may_where holds m = record { front = m.front; joined = m.joined; spelled = (holds, m.spelled) }

pub may_empty : {a : List Word} → MayTake Empty a a
may_empty = record { front = []; joined = refl; spelled = refl }

-- all the words that there are
pub spells_all : (Of : Grammar) {a : List Word} → MayTake Of a [] → Of a
spells_all Of t = subst Of (sym (t.joined ∙ append-nil t.front)) t.spelled

pub all_taken : (Of : Grammar) {a : List Word} → Of a → MayTake Of a []
all_taken Of {a = a} s = record { front = a; joined = sym (append-nil a); spelled = s }

each_push : {A : Type 0} (Of : A → Grammar) (xs : List A) (x : A) (front back : List Word) → Each Of xs front → Of x back → Each Of (xs ++ x ∷ []) (front ++ back)
each_push Of [] x front back e s =
    record {
      front = back;
      back = [];
      joined = ap (λ ws. ws ++ back) e ∙ sym (append-nil back);
      first = s;
      second = refl;
    }
each_push Of (y ∷ ys) x front back e s =
    record {
      front = e.front;
      back = e.back ++ back;
      joined = ap (λ ws. ws ++ back) e.joined ∙ append_assoc e.front e.back back;
      first = e.first;
      second = each_push Of ys x e.back back e.second s;
    }

-- one more thing of a list
pub each_more : {A : Type 0} (Of : A → Grammar) (xs : List A) (x : A) {a b c : List Word} → MayTake (Each Of xs) a b → MayTake (Of x) b c → MayTake (Each Of (xs ++ x ∷ [])) a c
each_more Of xs x {c = c} p q =
    record {
      front = p.front ++ q.front;
      joined = p.joined ∙ ap (λ ws. p.front ++ ws) q.joined ∙ sym (append_assoc p.front q.front c);
      spelled = each_push Of xs x p.front q.front p.spelled q.spelled;
    }

-- the first thing of a list that has one
pub first_one : {A : Type 0} (First Later : A → Grammar) (x : A) {a b : List Word} → Takes (First x) a b → Takes (FirstThenEach First Later (x ∷ [])) a b
first_one First Later x t =
    takes_may t may_empty

later_push : {A : Type 0} (First Later : A → Grammar) (xs : List A) (x : A) (front back : List Word) → FirstThenEach First Later xs front → Later x back → FirstThenEach First Later (xs ++ x ∷ []) (front ++ back)
later_push First Later [] x front back e s = absurd e
later_push First Later (y ∷ ys) x front back e s =
    record {
      front = e.front;
      back = e.back ++ back;
      joined = ap (λ ws. ws ++ back) e.joined ∙ append_assoc e.front e.back back;
      first = e.first;
      second = each_push Later ys x e.back back e.second s;
    }

-- one more thing of a list that has a first
pub later_more : {A : Type 0} (First Later : A → Grammar) (xs : List A) (x : A) {a b c : List Word} → Takes (FirstThenEach First Later xs) a b → MayTake (Later x) b c → Takes (FirstThenEach First Later (xs ++ x ∷ [])) a c
later_more First Later xs x {c = c} p q =
    record {
      front = p.front ++ q.front;
      joined = p.joined ∙ ap (λ ws. p.front ++ ws) q.joined ∙ sym (append_assoc p.front q.front c);
      spelled = later_push First Later xs x p.front q.front p.spelled q.spelled;
      fewer = omega (arith, p.fewer, no_longer q);
    }

-- a pair of brackets, where the depth allows it
pub takes_bracketed : (opening closing : List ℕ) (depth inner : ℕ) (Between : ℕ → Grammar) {a b c d : List Word} → depth ≡ inner + 1 → Takes (Sign opening) a b → MayTake (Between inner) b c → Takes (Sign closing) c d → Takes (Bracketed opening closing depth Between) a d
takes_bracketed opening closing depth inner Between {a = a} {d = d} e o m c =
    let is : depth ≡ suc inner = e ∙ add-one inner in
    subst (λ n. Takes (Bracketed opening closing n Between) a d) (sym is) (takes_both o (may_takes m c))
