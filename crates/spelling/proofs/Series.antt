-- A list of parts with a sign between each two, read one by one.
use Rattle.std.proofs.Common.{◌≡◌, ℕ, List, [], ◌∷◌, ◌++◌, Result, Ok, Err, refl, ap, sym, subst, ◌∙◌, map}
use Rattle.std.proofs.lemmas.List.{map-append}
use denote.Ref.{MutBor}
use Rattle.std.specs.Result.{IsErrAnd}
use Rattle.spelling.specs.Words.{Word}
use Rattle.spelling.specs.Grammar.{Grammar, ◌⨟◌, Begins, Each, IsSign, Separated, Sign}
use Rattle.spelling.specs.Reading.{ahead, Takes, MayTake}
use Rattle.spelling.specs.declared.error.SyntaxError.{SyntaxError}
use Rattle.spelling.specs.declared.reader.Reader.{Reader}
use Rattle.spelling.specs.Readers.{Reads, ReadsBefore, WithSigns, JustOne, OneBehind, InSeries, Whole, RefusedFirst, RefusedNext, WantingMemory}
use Rattle.spelling.proofs.Taking.{first_one, later_more, may, takes_both}
use Rattle.spelling.proofs.Only.{after, after_one, begins, begins_first, empty_same, regroup, wants}
use Rattle.spelling.proofs.Bounds.{want_deep}
use Rattle.spelling.proofs.Whole.{Left, first_of, left_first, left_more, none_left, one_left}
use Rattle.spelling.proofs.Refusals.{of_refusal}

-- the end of a `?` in a list
pub refused_series : {A : Type 0} {sign : List ℕ} {Calls : MutBor Reader → Result A SyntaxError → MutBor Reader → Type 0} {before after : Reader} {e : SyntaxError} {result : Result (List A) SyntaxError} → IsErrAnd result (λ d. d ≡ e) → InSeries sign Calls before after (Err e) → InSeries sign Calls before after result
refused_series {sign = sign} {Calls = Calls} {before = before} {after = end} is h = of_refusal (λ r. InSeries sign Calls before end r) is h

-- a reader that stands for itself, whatever follows
pub reads_before : {A B : Type 0} {Follows : Grammar} {Of : B → Grammar} {seen : A → B} {before after : Reader} {result : Result A SyntaxError} → Reads Of seen before after result → ReadsBefore Follows Of seen before after result
reads_before r = record { taken = r.taken; only = λ x rest m follows. r.only x rest m; shallow = r.shallow }

-- where a part ends: at the sign, and where the list does; and there no sign stands
pub record SeriesEnds (sign : List ℕ) (Part Series : Grammar) : Type 0 where
  pub at_sign : (ws : List Word) → Begins (IsSign sign) ws → Part ws
  pub at_end : (ws : List Word) → Series ws → Part ws
  pub no_sign : (ws : List Word) → Series ws → Begins (IsSign sign) ws → ⊥

abbrev Later : {B : Type 0} → List ℕ → (B → Grammar) → B → Grammar
Later sign Of x = Sign sign ⨟ Of x

-- what follows a part in a list ends the part
part_ends : {B : Type 0} {sign : List ℕ} (Of : B → Grammar) {Part Series : Grammar} → SeriesEnds sign Part Series → (later : List B) {a c : List Word} → MayTake (Each (Later sign Of) later) a c → Series c → Part a
part_ends Of {Part = Part} e [] {c = c} m ends = subst Part (sym (empty_same m)) (e.at_end c ends)
part_ends Of e (x ∷ later) {a = a} m ends = e.at_sign a (begins_first (regroup m))

record Read {A B : Type 0} (sign : List ℕ) (Of : B → Grammar) (all_seen : List A → List B) (Series : Grammar) (before : Reader) (xs : List A) (now : Reader) : Type 0 where
  taken : Takes (Separated (Sign sign) Of (all_seen xs)) (ahead before) (ahead now)
  only : (all : List B) (rest : List Word) → MayTake (Separated (Sign sign) Of all) (ahead before) rest → Series rest → Left (Later sign Of) (all_seen xs) all (ahead now) rest

read_so_far : {A B : Type 0} {sign : List ℕ} {Calls : MutBor Reader → Result A SyntaxError → MutBor Reader → Type 0} {Part Series : Grammar} (Of : B → Grammar) (seen : A → B) (all_seen : List A → List B) (before : Reader) (xs : List A) (now : Reader) → ((y : A) → all_seen (y ∷ []) ≡ seen y ∷ []) → ((ys : List A) (y : A) → all_seen (ys ++ y ∷ []) ≡ all_seen ys ++ seen y ∷ []) → SeriesEnds sign Part Series → ((old new : MutBor Reader) (r : Result A SyntaxError) → Calls old r new → ReadsBefore Part Of seen old.now new.now r) → WithSigns sign Calls before xs now → Read sign Of all_seen Series before xs now
read_so_far {sign = sign} Of seen all_seen before xs now one grows ends reads (JustOne old new x start call) =
    let r = reads old new (Ok x) call in
    record {
      taken = subst (λ zs. Takes (Separated (Sign sign) Of zs) (ahead before) (ahead now)) (sym (one x)) (first_one Of (Later sign Of) (seen x) (subst (λ at. Takes (Of (seen x)) (ahead at) (ahead now)) start r.taken));
      only = λ all rest m follows.
          let n = first_of Of (Later sign Of) all (subst (λ at. MayTake (Separated (Sign sign) Of all) (ahead at) rest) (sym start) m) in
          let t = after n.ahead (λ b f s. r.only n.one b f (part_ends Of ends n.later s follows)) in
          left_first n (one x) t.0 t.1;
    }
read_so_far {sign = sign} Of seen all_seen before xs now one grows ends reads (OneBehind ys mid old new x earlier at_sign call) =
    let s = read_so_far Of seen all_seen before ys mid one grows ends reads earlier in
    let r = reads old new (Ok x) call in
    record {
      taken = subst (λ zs. Takes (Separated (Sign sign) Of zs) (ahead before) (ahead now)) (sym (grows ys x)) (later_more Of (Later sign Of) (all_seen ys) (seen x) s.taken (may (takes_both at_sign r.taken)));
      only = λ all rest m follows.
          let n = one_left (s.only all rest m follows) (λ e. ends.no_sign rest follows (subst (Begins (IsSign sign)) e (begins (may at_sign)))) in
          let t = after (after_one (regroup n.ahead) at_sign) (λ b f g. r.only n.one b f (part_ends Of ends n.later g follows)) in
          left_more n (grows ys x) t.0 t.1;
    }

pub series : {A B : Type 0} {sign : List ℕ} {Part Series : Grammar} {Of : B → Grammar} (seen : A → B) (all_seen : List A → List B) {Calls : MutBor Reader → Result A SyntaxError → MutBor Reader → Type 0} {before after : Reader} {result : Result (List A) SyntaxError} → ((y : A) → all_seen (y ∷ []) ≡ seen y ∷ []) → ((ys : List A) (y : A) → all_seen (ys ++ y ∷ []) ≡ all_seen ys ++ seen y ∷ []) → SeriesEnds sign Part Series → ((old new : MutBor Reader) (r : Result A SyntaxError) → Calls old r new → ReadsBefore Part Of seen old.now new.now r) → InSeries sign Calls before after result → ReadsBefore Series (Separated (Sign sign) Of) all_seen before after result
series {sign = sign} {Of = Of} seen all_seen {before = before} {after = end} one grows ends reads (Whole xs mid o at same) =
    let s = read_so_far Of seen all_seen before xs mid one grows ends reads o in
    record {
      taken = subst (λ at. Takes (Separated (Sign sign) Of (all_seen xs)) (ahead before) (ahead at)) (sym same) s.taken;
      only = λ all rest m follows.
          let done = none_left (s.only all rest m follows) (λ x later f. at (begins_first (regroup f))) in
          (done.0, ap ahead same ∙ done.1);
      shallow = tt;
    }
series {sign = sign} {Of = Of} seen all_seen {before = before} one grows ends reads (RefusedFirst old new e start call same) =
    let r = reads old new (Err e) call in
    record {
      taken = tt;
      only = λ all rest m follows.
          let n = first_of Of (Later sign Of) all (subst (λ at. MayTake (Separated (Sign sign) Of all) (ahead at) rest) (sym start) m) in
          wants n.ahead (λ b f s. r.only n.one b f (part_ends Of ends n.later s follows));
      shallow = r.shallow;
    }
series {sign = sign} {Of = Of} seen all_seen {before = before} one grows ends reads (RefusedNext xs mid old new e o at_sign call same) =
    let s = read_so_far Of seen all_seen before xs mid one grows ends reads o in
    let r = reads old new (Err e) call in
    record {
      taken = tt;
      only = λ all rest m follows.
          let n = one_left (s.only all rest m follows) (λ e. ends.no_sign rest follows (subst (Begins (IsSign sign)) e (begins (may at_sign)))) in
          wants (after_one (regroup n.ahead) at_sign) (λ b f g. r.only n.one b f (part_ends Of ends n.later g follows));
      shallow = r.shallow;
    }
series seen all_seen one grows ends reads (WantingMemory e want) =
    record { taken = tt; only = λ all rest m follows. want; shallow = want_deep _ e want }

-- what is seen as it is
pub in_series : {A : Type 0} {sign : List ℕ} {Part Series : Grammar} {Of : A → Grammar} {Calls : MutBor Reader → Result A SyntaxError → MutBor Reader → Type 0} {before after : Reader} {result : Result (List A) SyntaxError} → SeriesEnds sign Part Series → ((old new : MutBor Reader) (r : Result A SyntaxError) → Calls old r new → ReadsBefore Part Of (λ read. read) old.now new.now r) → InSeries sign Calls before after result → ReadsBefore Series (Separated (Sign sign) Of) (λ read. read) before after result
in_series = series (λ x. x) (λ xs. xs) (λ y. refl) (λ ys y. refl)

-- each seen as it is on the plain tree
pub in_series_seen : {A B : Type 0} {sign : List ℕ} {Part Series : Grammar} {Of : B → Grammar} {seen : A → B} {Calls : MutBor Reader → Result A SyntaxError → MutBor Reader → Type 0} {before after : Reader} {result : Result (List A) SyntaxError} → SeriesEnds sign Part Series → ((old new : MutBor Reader) (r : Result A SyntaxError) → Calls old r new → ReadsBefore Part Of seen old.now new.now r) → InSeries sign Calls before after result → ReadsBefore Series (Separated (Sign sign) Of) (map seen) before after result
in_series_seen {seen = seen} = series seen (map seen) (λ y. refl) (λ ys y. map-append seen ys (y ∷ []))
