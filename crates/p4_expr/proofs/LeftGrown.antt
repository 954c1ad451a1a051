-- An expression that grows to the left: a first one, and things that are put to it one after the other.
use Rattle.std.proofs.Common.{◌≡◌, ℕ, ◌≤◌, List, [], ◌∷◌, ◌++◌, refl, sym, ap, ◌∙◌, arith, append_assoc, append-nil}
use Rattle.elastic_ast.specs.Tree.{PlainExpr}
use Rattle.spelling.specs.Words.{Word}
use Rattle.spelling.specs.Grammar.{Grammar, ◌⨟◌, Each}
use Rattle.spelling.specs.Reading.{MayTake}
use Rattle.spelling.proofs.Taking.{all_taken, each_more, spells_all}
use Rattle.p4_expr.specs.Operators.{operators_in}

abbrev pub grown : {A : Type 0} → (PlainExpr → A → PlainExpr) → PlainExpr → List A → PlainExpr
grown put e [] = e
grown put e (x ∷ later) = grown put (put e x) later

grown_more : {A : Type 0} (put : PlainExpr → A → PlainExpr) (e : PlainExpr) (later : List A) (x : A) → put (grown put e later) x ≡ grown put e (later ++ x ∷ [])
grown_more put e [] x = refl
grown_more put e (y ∷ later) x = grown_more put (put e y) later x

one_more : {A : Type 0} (Of : A → Grammar) (xs : List A) (x : A) (front back : List Word) → Each Of xs front → Of x back → Each Of (xs ++ x ∷ []) (front ++ back)
one_more Of xs x front back e s = spells_all (Each Of (xs ++ x ∷ [])) (each_more Of xs x record { front = front; joined = refl; spelled = e } (all_taken (Of x) s))

-- words spell the first one and what is put to it
pub record Grown {A : Type 0} (put : PlainExpr → A → PlainExpr) (First : PlainExpr → Grammar) (Of : A → Grammar) (e : PlainExpr) (ws : List Word) : Type 0 where
  pub first : PlainExpr
  pub later : List A
  pub whole : e ≡ grown put first later
  pub spelled : (First first ⨟ Each Of later) ws

pub first_alone : {A : Type 0} {put : PlainExpr → A → PlainExpr} {First : PlainExpr → Grammar} {Of : A → Grammar} (e : PlainExpr) (ws : List Word) → First e ws → Grown put First Of e ws
first_alone e ws h = record { first = e; later = []; whole = refl; spelled = record { front = ws; back = []; joined = sym (append-nil ws); first = h; second = refl } }

pub grown_one : {A : Type 0} {put : PlainExpr → A → PlainExpr} {First : PlainExpr → Grammar} {Of : A → Grammar} (e : PlainExpr) (x : A) {front back ws : List Word} → ws ≡ front ++ back → Grown put First Of e front → Of x back → Grown put First Of (put e x) ws
grown_one {put = put} {Of = Of} e x {back = back} j g h =
    let s = g.spelled in
    record {
      first = g.first;
      later = g.later ++ x ∷ [];
      whole = ap (λ l. put l x) g.whole ∙ grown_more put g.first g.later x;
      spelled = record {
        front = s.front;
        back = s.back ++ back;
        joined = j ∙ ap (λ l. l ++ back) s.joined ∙ append_assoc s.front s.back back;
        first = s.first;
        second = one_more Of g.later x s.back back s.second h;
      };
    }

-- what is put to an expression adds operators to it, or none
grown_count : {A : Type 0} (put : PlainExpr → A → PlainExpr) (now : PlainExpr) (later : List A) → ((e : PlainExpr) (x : A) → operators_in e ≤ operators_in (put e x)) → operators_in now ≤ operators_in (grown put now later)
grown_count put now [] adds = omega arith
grown_count put now (x ∷ later) adds = omega (arith, adds now x, grown_count put (put now x) later adds)

pub grown_few : {A : Type 0} (put : PlainExpr → A → PlainExpr) (now e : PlainExpr) (later : List A) (most : ℕ) → ((e : PlainExpr) (x : A) → operators_in e ≤ operators_in (put e x)) → e ≡ grown put now later → operators_in e ≤ most → operators_in now ≤ most
grown_few put now e later most adds whole few = omega (arith, grown_count put now later adds, ap operators_in whole, few)

-- the same of the words ahead
pub record GrownAhead {A : Type 0} (put : PlainExpr → A → PlainExpr) (First : PlainExpr → Grammar) (Of : A → Grammar) (e : PlainExpr) (a c : List Word) : Type 0 where
  pub first : PlainExpr
  pub later : List A
  pub whole : e ≡ grown put first later
  pub ahead : MayTake (First first ⨟ Each Of later) a c

pub grown_ahead : {A : Type 0} {put : PlainExpr → A → PlainExpr} {First : PlainExpr → Grammar} {Of : A → Grammar} {Whole : Grammar} {e : PlainExpr} {a c : List Word} → ((ws : List Word) → Whole ws → Grown put First Of e ws) → MayTake Whole a c → GrownAhead put First Of e a c
grown_ahead parts m =
    let p = parts m.front m.spelled in
    record { first = p.first; later = p.later; whole = p.whole; ahead = record { front = m.front; joined = m.joined; spelled = p.spelled } }
