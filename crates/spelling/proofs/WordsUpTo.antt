-- Readers of words that are followed by others.
use Rattle.spelling.proofs.Only.{empty_same, no_sign, split}
use Rattle.spelling.proofs.Taking.{may, may_empty, may_takes}
use Rattle.spelling.proofs.Balance.{Stays}
use Rattle.std.proofs.Common.{◌≡◌, ℕ, ◌≤◌, List, [], ◌∷◌, ◌++◌, Result, Ok, Err, refl, ap, sym, subst, ◌∙◌, map, arith, codes}
use Rattle.std.proofs.lemmas.List.{map-append}
use denote.Ref.{MutBor}
use Rattle.std.specs.Prelude.{IfErr, IfOk}
use Rattle.spelling.specs.Words.{Word}
use Rattle.spelling.specs.Grammar.{Grammar, ◌⨟◌, Commas, Empty, Separated, Sign}
use Rattle.spelling.specs.Bounds.{IsNeverDeep}
use Rattle.spelling.specs.Reading.{ahead, IsAnswer, IsReading, MayTake, Takes}
use Rattle.spelling.specs.Readers.{EndsRound, InCommas, NoParts, SomeParts, Reads, ReadsWordsUpTo, ReadsUpTo, Until, Ended, Refused, Wanting, ReadsWithin, ReadsBefore}
use Rattle.spelling.specs.declared.error.SyntaxError.{SyntaxError}
use Rattle.spelling.specs.declared.error.SyntaxError.TheVariants as error
use Rattle.spelling.specs.declared.reader.Reader.{Reader}
use Rattle.spelling.proofs.Bounds.{deep_as, want_deep}
use Rattle.spelling.proofs.ByParts.{part_deep}
use Rattle.spelling.proofs.Limits.{answer_reading}
use Rattle.spelling.proofs.Series.{reads_before, series}

-- where few are used, a reader with bounds answers as one without
answer_within : {A B : Type 0} (Few : Type 0) (seen : A → B) (x : B) (rest now : List Word) (r : Result A SyntaxError) → Few → IsReading Few seen x rest now r → IsAnswer seen x rest now r
answer_within Few seen x rest now (Ok y) few reading = reading
answer_within Few seen x rest now (Err error.Memory) few reading = tt
answer_within Few seen x rest now (Err (error.NotProgram token)) few reading = reading
answer_within Few seen x rest now (Err (error.TooDeep token)) few reading = absurd (reading few)

pub never_until : {A : Type 0} {Stop : Grammar} {Calls : MutBor Reader → Result A SyntaxError → MutBor Reader → Type 0} {before after : Reader} {result : Result (List A) SyntaxError} → ((old new : MutBor Reader) (e : SyntaxError) → Calls old (Err e) new → IsNeverDeep e) → Until Stop Calls before after result → IfErr result IsNeverDeep
never_until never (Ended xs o at) = tt
never_until never (Refused xs old new e o not_at call same) = never old new e call
never_until never (Wanting e want) = want_deep ⊥ e want

-- parts up to a sign, none of which opens a bracket
pub words_up_to : {A B : Type 0} {Stop : Grammar} {Of : B → Grammar} {seen : A → B} {before after : Reader} {result : Result A SyntaxError} → ReadsUpTo Stop (λ _. Of) seen 0 before after result → IfErr result IsNeverDeep → ReadsWordsUpTo Stop Of seen before after result
words_up_to {seen = seen} {after = end} {result = result} r never =
    record { taken = r.taken; only = λ x rest m at. answer_within (0 ≤ 0) seen x rest (ahead end) result (omega arith) (r.only 0 x rest m at); shallow = never }

-- what is read up to a sign, by a reader of words
pub words_within_up_to : {A B : Type 0} {Follows : Grammar} {Of : B → Grammar} {seen : A → B} {depth : ℕ} {before after : Reader} {result : Result A SyntaxError} → ReadsWordsUpTo Follows Of seen before after result → ReadsUpTo Follows (λ _. Of) seen depth before after result
words_within_up_to {seen = seen} {depth = depth} {after = end} {result = result} r =
    record {
      taken = r.taken;
      only = λ more x rest m at. answer_reading (more ≤ depth) seen x rest (ahead end) result (r.only x rest m at);
      deep = deep_as result (λ no. absurd no) r.shallow;
    }

-- behind perhaps some words, which are read before what follows them
pub behind_words : {A B : Type 0} {Front : Grammar} {Of : ℕ → B → Grammar} {seen : A → B} {depth : ℕ} {before end : Reader} {result : Result A SyntaxError} (mid : Reader) → Stays depth Front → ((more : ℕ) (x : B) (rest : List Word) → MayTake (Front ⨟ Of more x) (ahead before) rest → MayTake (Of more x) (ahead mid) rest) → MayTake Front (ahead before) (ahead mid) → ReadsWithin Of seen depth mid end result → ReadsWithin (λ most x. Front ⨟ Of most x) seen depth before end result
behind_words {result = Ok y} mid stays past front r = record { taken = may_takes front r.taken; only = λ more x rest m. r.only more x rest (past more x rest m); deep = tt }
behind_words {end = end} {result = Err e} mid stays past front r = record { taken = tt; only = λ more x rest m. r.only more x rest (past more x rest m); deep = part_deep (ahead end) e stays front r.deep }

-- a list with commas, perhaps empty: from one that has a first
commas_of : {B : Type 0} (Of : B → Grammar) (xs : List B) {a c : List Word} → MayTake (Separated (Sign (codes ",")) Of xs) a c → MayTake (Commas Of xs) a c
commas_of Of [] m = absurd m.spelled
commas_of Of (x ∷ xs) m = m

of_commas : {B : Type 0} (Of : B → Grammar) (xs : List B) {a c : List Word} → MayTake (Commas Of xs) a c → EndsRound c → (EndsRound a → ⊥) → MayTake (Separated (Sign (codes ",")) Of xs) a c
of_commas Of [] m at none = absurd (none (subst EndsRound (sym (empty_same m)) at))
of_commas Of (x ∷ xs) m at none = m

if_commas : {A B : Type 0} (Of : B → Grammar) (seen : A → List B) (a c : List Word) (r : Result A SyntaxError) → IfOk r (λ xs. Takes (Separated (Sign (codes ",")) Of (seen xs)) a c) → IfOk r (λ xs. MayTake (Commas Of (seen xs)) a c)
if_commas Of seen a c (Ok xs) t = commas_of Of (seen xs) (may t)
if_commas Of seen a c (Err e) t = tt

commas_read : {A B : Type 0} {Of : B → Grammar} {seen : A → List B} {before after : Reader} {result : Result A SyntaxError} → ReadsBefore EndsRound (Separated (Sign (codes ",")) Of) seen before after result → (EndsRound (ahead before) → ⊥) → ReadsWordsUpTo EndsRound (Commas Of) seen before after result
commas_read {Of = Of} {seen = seen} {before = before} {after = end} {result = result} r none = record { taken = if_commas Of seen (ahead before) (ahead end) result r.taken; only = λ xs rest m at. r.only xs rest (of_commas Of xs m at none) at; shallow = r.shallow }

-- where the bracket closes, no part is left
no_commas : {B : Type 0} (Of : B → Grammar) (xs : List B) {a c : List Word} → ((x : B) (a c : List Word) → MayTake (Of x) a c → EndsRound a → ⊥) → MayTake (Commas Of xs) a c → EndsRound a → ([] ≡ xs) × (a ≡ c)
no_commas Of [] none m at = (refl, empty_same m)
no_commas Of (x ∷ xs) none m at = let s = split m in absurd (none x _ _ s.first at)

-- parts without a depth, none of which begins with the bracket
commas_by : {A B : Type 0} {Of : B → Grammar} (seen : A → B) (all_seen : List A → List B) {Calls : MutBor Reader → Result A SyntaxError → MutBor Reader → Type 0} {before after : Reader} {result : Result (List A) SyntaxError} → all_seen [] ≡ [] → ((y : A) → all_seen (y ∷ []) ≡ seen y ∷ []) → ((ys : List A) (y : A) → all_seen (ys ++ y ∷ []) ≡ all_seen ys ++ seen y ∷ []) → ((x : B) (a c : List Word) → MayTake (Of x) a c → EndsRound a → ⊥) → ((old new : MutBor Reader) (r : Result A SyntaxError) → Calls old r new → Reads Of seen old.now new.now r) → InCommas Calls before after result → ReadsWordsUpTo EndsRound (Commas Of) all_seen before after result
commas_by {Of = Of} seen all_seen {before = before} {after = end} nothing one grows begins_none reads (NoParts at same) =
    record {
      taken = subst (λ xs. MayTake (Commas Of xs) (ahead before) (ahead end)) (sym nothing) (subst (λ at. MayTake Empty (ahead before) (ahead at)) (sym same) may_empty);
      only = λ all rest m follows.
          let n = no_commas Of all begins_none m at in
          (nothing ∙ n.0, ap ahead same ∙ n.1);
      shallow = tt;
    }
commas_by {Of = Of} seen all_seen nothing one grows begins_none reads (SomeParts result none parts) =
    commas_read (series {Part = λ _. Unit {0}} {Series = EndsRound} seen all_seen one grows record { at_sign = λ ws at. tt; at_end = λ ws at. tt; no_sign = λ ws at comma. no_sign (codes ")") (codes ",") ws refl at comma } (λ old new r call. reads_before (reads old new r call)) parts) none

pub in_commas : {A : Type 0} {Of : A → Grammar} {Calls : MutBor Reader → Result A SyntaxError → MutBor Reader → Type 0} {before after : Reader} {result : Result (List A) SyntaxError} → ((x : A) (a c : List Word) → MayTake (Of x) a c → EndsRound a → ⊥) → ((old new : MutBor Reader) (r : Result A SyntaxError) → Calls old r new → Reads Of (λ read. read) old.now new.now r) → InCommas Calls before after result → ReadsWordsUpTo EndsRound (Commas Of) (λ read. read) before after result
in_commas = commas_by (λ x. x) (λ xs. xs) refl (λ y. refl) (λ ys y. refl)

pub in_commas_seen : {A B : Type 0} {Of : B → Grammar} {seen : A → B} {Calls : MutBor Reader → Result A SyntaxError → MutBor Reader → Type 0} {before after : Reader} {result : Result (List A) SyntaxError} → ((x : B) (a c : List Word) → MayTake (Of x) a c → EndsRound a → ⊥) → ((old new : MutBor Reader) (r : Result A SyntaxError) → Calls old r new → Reads Of seen old.now new.now r) → InCommas Calls before after result → ReadsWordsUpTo EndsRound (Commas Of) (map seen) before after result
in_commas_seen {seen = seen} = commas_by seen (map seen) refl (λ y. refl) (λ ys y. map-append seen ys (y ∷ []))
