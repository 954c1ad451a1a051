-- How far a reader gets in an expression that grows to the left: it reads no fewer words than any front that is spelled.
use Rattle.std.proofs.Common.{◌≡◌, ◌<◌, ◌≤◌, List, [], ◌∷◌, ap, arith, length, subst, sym, ◌∙◌}
use Rattle.elastic_ast.specs.Tree.{PlainExpr}
use Rattle.spelling.specs.Words.{Word}
use Rattle.spelling.specs.Grammar.{Grammar, ◌⨟◌, Each, One}
use Rattle.spelling.specs.Reading.{MayTake, Takes}
use Rattle.spelling.proofs.Only.{empty_same, opened, split}
use Rattle.p4_expr.proofs.LeftGrown.{grown}

-- what is read up to the place where another spelling ends is as long
pub as_long : {a b : List Word} → a ≡ b → length a ≤ length b
as_long same = omega (arith, ap length same)

-- one word is no longer than what is read there
pub one_word : {F : Word → Type 0} {Of : Grammar} {a b c : List Word} → MayTake (One F) a c → Takes Of a b → length b ≤ length c
one_word m t = omega (arith, ap length (opened m), t.fewer)

-- Where `now` is read of what spells an expression up to `c`, the reader stands before a thing that is put to it; or as far as `c` or
-- further, and where what follows `c` is so, it stands there, and `now` is the whole.
pub data StillAhead {A : Type 0} (put : PlainExpr → A → PlainExpr) (Of : A → Grammar) (Follows : Grammar) (now e : PlainExpr) (a c : List Word) : Type 0 where
  past : length a ≤ length c → (Follows c → (now ≡ e) × (a ≡ c)) → StillAhead put Of Follows now e a c
  before : (x : A) (later : List A) → e ≡ grown put now (x ∷ later) → MayTake (Of x ⨟ Each Of later) a c → StillAhead put Of Follows now e a c

-- a part ends before each thing that may follow it, and where the whole ends
pub record Parts {A : Type 0} (Of : A → Grammar) (EndsPart Follows : Grammar) : Type 0 where
  pub whole : (ws : List Word) → Follows ws → EndsPart ws
  pub before : (x : A) (later : List A) (a c : List Word) → MayTake (Of x ⨟ Each Of later) a c → EndsPart a

pub ends_part : {A : Type 0} {Of : A → Grammar} {EndsPart Follows : Grammar} → Parts Of EndsPart Follows → (later : List A) {a c : List Word} → MayTake (Each Of later) a c → Follows c → EndsPart a
ends_part {EndsPart = EndsPart} parts [] {c = c} m follows = subst EndsPart (sym (empty_same m)) (parts.whole c follows)
ends_part parts (x ∷ later) {a = a} {c = c} m follows = parts.before x later a c m

-- behind a part, of which `read` is read
pub part_read : {A B : Type 0} {put : PlainExpr → A → PlainExpr} {Of : A → Grammar} {EndsPart Follows : Grammar} → Parts Of EndsPart Follows → (P : B → Grammar) (make : B → PlainExpr) (first read : B) (later : List A) {now e : PlainExpr} {a b c : List Word} → now ≡ make read → e ≡ grown put (make first) later → MayTake (P first ⨟ Each Of later) a c → ((rest : List Word) → MayTake (P first) a rest → length b ≤ length rest) → ((rest : List Word) → MayTake (P first) a rest → EndsPart rest → (read ≡ first) × (b ≡ rest)) → StillAhead put Of Follows now e b c
part_read {EndsPart = EndsPart} parts P make first read [] {b = b} {c = c} made whole m longest only =
    let s = split m in
    let same = empty_same s.second in
    StillAhead.past (subst (λ ws. length b ≤ length ws) same (longest s.between s.first))
    (λ follows. let r = only s.between s.first (subst EndsPart (sym same) (parts.whole c follows)) in (made ∙ ap make r.0 ∙ sym whole, r.1 ∙ same))
part_read {put = put} {Of = Of} parts P make first read (x ∷ later) {c = c} made whole m longest only =
    let s = split m in
    let r = only s.between s.first (parts.before x later s.between c s.second) in
    StillAhead.before x later (whole ∙ ap (λ y. grown put y (x ∷ later)) (sym (made ∙ ap make r.0))) (subst (λ ws. MayTake (Of x ⨟ Each Of later) ws c) (sym r.1) s.second)

-- where one more thing is read, with which nothing begins that may follow
pub goes_on : {A : Type 0} {put : PlainExpr → A → PlainExpr} {Of : A → Grammar} {Follows : Grammar} {now then e : PlainExpr} {a b c : List Word} → StillAhead put Of Follows now e a c → length b < length a → (a ≡ c → Follows c → ⊥) → ((x : A) (later : List A) → e ≡ grown put now (x ∷ later) → MayTake (Of x ⨟ Each Of later) a c → StillAhead put Of Follows then e b c) → StillAhead put Of Follows then e b c
goes_on (StillAhead.past le same) less none read = StillAhead.past (omega (arith, le, less)) (λ follows. absurd (none (same follows).1 follows))
goes_on (StillAhead.before x later whole m) less none read = read x later whole m

-- the thing that is read next, where what follows the whole is so
pub record NextOne {A : Type 0} (put : PlainExpr → A → PlainExpr) (Of : A → Grammar) (now e : PlainExpr) (a c : List Word) : Type 0 where
  pub one : A
  pub later : List A
  pub whole : e ≡ grown put now (one ∷ later)
  pub ahead : MayTake (Of one ⨟ Each Of later) a c

pub next_one : {A : Type 0} {put : PlainExpr → A → PlainExpr} {Of : A → Grammar} {Follows : Grammar} {now e : PlainExpr} {a c : List Word} → StillAhead put Of Follows now e a c → Follows c → (a ≡ c → Follows c → ⊥) → NextOne put Of now e a c
next_one (StillAhead.past le same) follows none = absurd (none (same follows).1 follows)
next_one (StillAhead.before x later whole m) follows none = record { one = x; later = later; whole = whole; ahead = m }

-- where no more can be read
pub record AllRead (Follows : Grammar) (now e : PlainExpr) (a c : List Word) : Type 0 where
  pub longest : length a ≤ length c
  pub only : Follows c → (now ≡ e) × (a ≡ c)

pub all_read : {A : Type 0} {put : PlainExpr → A → PlainExpr} {Of : A → Grammar} {Follows : Grammar} {now e : PlainExpr} {a c : List Word} → StillAhead put Of Follows now e a c → ((x : A) (later : List A) → MayTake (Of x ⨟ Each Of later) a c → ⊥) → AllRead Follows now e a c
all_read (StillAhead.past le same) none = record { longest = le; only = same }
all_read (StillAhead.before x later whole m) none = absurd (none x later m)
