-- Reading a list of things one by one: what is still ahead of the reader.
use Rattle.std.proofs.Common.{◌≡◌, List, [], ◌∷◌, ◌++◌, refl, ap, sym, ◌∙◌, append_assoc, append-nil}
use Rattle.spelling.specs.Words.{Word}
use Rattle.spelling.specs.Grammar.{Grammar, ◌⨟◌, Each, FirstThenEach}
use Rattle.spelling.specs.Reading.{MayTake}
use Rattle.spelling.proofs.Only.{empty_same}

-- the things of a list after those that are read stand ahead
pub record Left {A : Type 0} (Of : A → Grammar) (read all : List A) (now rest : List Word) : Type 0 where
  pub left : List A
  pub whole : all ≡ read ++ left
  pub ahead : MayTake (Each Of left) now rest

-- the same where at least one is left
pub record Next {A : Type 0} (Of : A → Grammar) (read all : List A) (now rest : List Word) : Type 0 where
  pub one : A
  pub later : List A
  pub whole : all ≡ read ++ one ∷ later
  pub ahead : MayTake (Of one ⨟ Each Of later) now rest

-- before the first
pub left_all : {A : Type 0} (Of : A → Grammar) {all : List A} {now rest : List Word} → MayTake (Each Of all) now rest → Left Of [] all now rest
left_all Of {all = all} m = record { left = all; whole = refl; ahead = m }

-- after one more
pub left_more : {A : Type 0} {Of : A → Grammar} {read more all : List A} {x : A} {before now rest : List Word} (n : Next Of read all before rest) → more ≡ read ++ x ∷ [] → x ≡ n.one → MayTake (Each Of n.later) now rest → Left Of more all now rest
left_more {read = read} {more = more} n grown is m =
    let same : more ≡ read ++ n.one ∷ [] = grown ∙ ap (λ y. read ++ y ∷ []) is in
    record {
      left = n.later;
      whole = n.whole ∙ sym (append_assoc read (n.one ∷ []) n.later) ∙ ap (λ ys. ys ++ n.later) (sym same);
      ahead = m;
    }

none_of : {A : Type 0} (Of : A → Grammar) {read all : List A} {now rest : List Word} (left : List A) → all ≡ read ++ left → MayTake (Each Of left) now rest → ((one : A) (later : List A) → MayTake (Of one ⨟ Each Of later) now rest → ⊥) → (read ≡ all) × (now ≡ rest)
none_of Of {read = read} [] whole m none = (sym (whole ∙ append-nil read), empty_same m)
none_of Of (one ∷ later) whole m none = absurd (none one later m)

-- the reading ends where none can be left
pub none_left : {A : Type 0} {Of : A → Grammar} {read all : List A} {now rest : List Word} → Left Of read all now rest → ((one : A) (later : List A) → MayTake (Of one ⨟ Each Of later) now rest → ⊥) → (read ≡ all) × (now ≡ rest)
none_left {Of = Of} l none = none_of Of l.left l.whole l.ahead none

one_of : {A : Type 0} (Of : A → Grammar) {read all : List A} {now rest : List Word} (left : List A) → all ≡ read ++ left → MayTake (Each Of left) now rest → (now ≡ rest → ⊥) → Next Of read all now rest
one_of Of [] whole m more = absurd (more (empty_same m))
one_of Of (one ∷ later) whole m more = record { one = one; later = later; whole = whole; ahead = m }

-- it goes on where the words aren't those after the whole
pub one_left : {A : Type 0} {Of : A → Grammar} {read all : List A} {now rest : List Word} → Left Of read all now rest → (now ≡ rest → ⊥) → Next Of read all now rest
one_left {Of = Of} l more = one_of Of l.left l.whole l.ahead more

-- a list whose first thing is spelled otherwise than those after it
pub record FirstOf {A : Type 0} (First Later : A → Grammar) (all : List A) (now rest : List Word) : Type 0 where
  pub one : A
  pub later : List A
  pub whole : all ≡ one ∷ later
  pub ahead : MayTake (First one ⨟ Each Later later) now rest

pub first_of : {A : Type 0} (First Later : A → Grammar) (all : List A) {now rest : List Word} → MayTake (FirstThenEach First Later all) now rest → FirstOf First Later all now rest
first_of First Later [] m = absurd m.spelled
first_of First Later (one ∷ later) m = record { one = one; later = later; whole = refl; ahead = m }

-- after the first
pub left_first : {A : Type 0} {First Later : A → Grammar} {read all : List A} {x : A} {before now rest : List Word} (f : FirstOf First Later all before rest) → read ≡ x ∷ [] → x ≡ f.one → MayTake (Each Later f.later) now rest → Left Later read all now rest
left_first {read = read} f first is m =
    let same : read ≡ f.one ∷ [] = first ∙ ap (λ y. y ∷ []) is in
    record { left = f.later; whole = f.whole ∙ ap (λ ys. ys ++ f.later) (sym same); ahead = m }
