-- What is read by its parts: between brackets, and one by one up to a sign.
use Rattle.std.proofs.Common.{◌≡◌, ℕ, ◌+◌, ◌≤◌, true, List, [], ◌∷◌, ◌++◌, Result, Ok, Err, refl, ap, sym, subst, ◌∙◌, arith, map}
use Rattle.std.proofs.lemmas.List.{map-append}
use denote.Ref.{MutBor}
use Rattle.spelling.specs.Words.{Word}
use Rattle.spelling.specs.Grammar.{Grammar, ◌⨟◌, One, Begins, IsSign, Sign, Each, Bracketed}
use Rattle.spelling.specs.Brackets.{is_opening}
use Rattle.spelling.specs.Bounds.{IfTooDeep, Opens, OpensNext, Stops}
use Rattle.spelling.specs.Reading.{ahead, Takes, MayTake, WantsOr}
use Rattle.std.specs.Prelude.{IfOk, MatchResult}
use Rattle.std.specs.Result.{IsErrAnd, IsOkAnd}
use Rattle.spelling.specs.declared.error.SyntaxError.{SyntaxError}
use Rattle.spelling.specs.declared.reader.Reader.{Reader}
use Rattle.spelling.proofs.Taking.{each_more, may, may_empty, takes_both, takes_bracketed}
use Rattle.spelling.proofs.Only.{after, after_one, alone, begins, same_end, wants, wants_one}
use Rattle.spelling.proofs.Limits.{answer_reading, opens_or, or_as, past_opening, want_or}
use Rattle.spelling.proofs.Bounds.{deep_as, forbidden, if_deep, even, none_open, one_open, refused_deep, stop_open, stop_opens, want_deep}
use Rattle.spelling.specs.Readers.{Reads, ReadsFew, ReadsFewUpTo, ReadsMade, ReadsWithin, ReadsWithinBefore, ReadsUpTo, InBrackets, Unopened, Broken, Unclosed, Closed, ThenSign, NoPart, NoSign, Both, OneByOne, NoneYet, OneMore, Until, Ended, Refused, Wanting}
use Rattle.spelling.proofs.Balance.{Stays, stays_each}
use Rattle.spelling.proofs.Refusals.{of_refusal}
use Rattle.spelling.proofs.Whole.{Left, left_all, left_more, none_left, one_left}

pub taken_may : {A B : Type 0} (Of : B → Grammar) (seen : A → B) (a b : List Word) (r : Result A SyntaxError) → IfOk r (λ y. Takes (Of (seen y)) a b) → IfOk r (λ y. MayTake (Of (seen y)) a b)
taken_may Of seen a b (Ok y) t = may t
taken_may Of seen a b (Err e) t = tt

-- a reader that needs no depth, and one that stands for itself whatever follows
pub words_within : {A B : Type 0} {Of : B → Grammar} {seen : A → B} {depth : ℕ} {before after : Reader} {result : Result A SyntaxError} → Reads Of seen before after result → ReadsWithin (λ _. Of) seen depth before after result
words_within {seen = seen} {depth = depth} {after = after} {result = result} r =
    record {
      taken = r.taken;
      only = λ more x rest m. answer_reading (more ≤ depth) seen x rest (ahead after) result (r.only x rest m);
      deep = deep_as result (λ no. absurd no) r.shallow;
    }

pub within_up_to : {A B : Type 0} {Follows : Grammar} {Of : ℕ → B → Grammar} {seen : A → B} {depth : ℕ} {before after : Reader} {result : Result A SyntaxError} → ReadsWithin Of seen depth before after result → ReadsUpTo Follows Of seen depth before after result
within_up_to {Of = Of} {seen = seen} {depth = depth} {before = before} {after = after} {result = result} r =
    record { taken = taken_may (Of depth) seen (ahead before) (ahead after) result r.taken; only = λ more x rest m follows. r.only more x rest m; deep = r.deep }

-- between brackets, a part that is read up to the closing sign
pub around : {A B : Type 0} {opening closing : List ℕ} {depth : ℕ} {Of : ℕ → B → Grammar} {seen : A → B} {Calls : MutBor Reader → ℕ → Result A SyntaxError → MutBor Reader → Type 0} {before after : Reader} {result : Result A SyntaxError} → is_opening opening ≡ true → ((inner : ℕ) (old new : MutBor Reader) (r : Result A SyntaxError) → Calls old inner r new → ReadsUpTo (Begins (IsSign closing)) Of seen inner old.now new.now r) → InBrackets opening closing depth Calls before after result → ReadsWithin (λ most x. Bracketed opening closing most (λ inner. Of inner x)) seen depth before after result
around {opening = opening} {closing = closing} {depth = depth} {Of = Of} {before = before} is reads (Unopened e refused same) =
    record {
      taken = tt;
      only = λ more x rest m. opens_or opening closing more depth (λ n. Of n x) _ _ e (λ few. few) m refused;
      deep = stop_open depth opening _ e is none_open (ap ahead same) refused;
    }
around {opening = opening} {closing = closing} {depth = depth} {Of = Of} {before = before} is reads (Broken inner old new e more_open opened call same) =
    let r = reads inner old new (Err e) call in
    record {
      taken = tt;
      only = λ more x rest m.
          let i = past_opening opening closing more depth inner (λ n. Of n x) more_open opened m in
          wants i.parts (λ b f s. or_as _ _ e i.fewer (r.only i.within x b f (begins s)));
      deep = if_deep e (λ s. subst (λ at. Stops (Opens depth) OpensNext (ahead before) (ahead at)) (sym same) (stop_opens depth 1 inner (omega (arith, more_open)) (one_open opening is (may opened)) s)) r.deep;
    }
around {opening = opening} {closing = closing} {depth = depth} {Of = Of} is reads (Unclosed inner old new y e more_open opened call refused same) =
    let r = reads inner old new (Ok y) call in
    record {
      taken = tt;
      only = λ more x rest m.
          let i = past_opening opening closing more depth inner (λ n. Of n x) more_open opened m in
          let m2 = after i.parts (λ b f s. r.only i.within x b f (begins s)) in
          want_or _ e (wants_one _ e (alone m2.1) refused);
      deep = refused_deep _ _ _ e refused;
    }
around {opening = opening} {closing = closing} {depth = depth} {Of = Of} {seen = seen} is reads (Closed inner old new y more_open opened call closed) =
    let r = reads inner old new (Ok y) call in
    record {
      taken = takes_bracketed opening closing depth inner (λ n. Of n (seen y)) more_open opened r.taken closed;
      only = λ more x rest m.
          let i = past_opening opening closing more depth inner (λ n. Of n x) more_open opened m in
          let m2 = after i.parts (λ b f s. r.only i.within x b f (begins s)) in
          (m2.0, same_end m2.1 closed);
      deep = tt;
    }

-- any other part
pub around_part : {A B : Type 0} {opening closing : List ℕ} {depth : ℕ} {Of : ℕ → B → Grammar} {seen : A → B} {Calls : MutBor Reader → ℕ → Result A SyntaxError → MutBor Reader → Type 0} {before after : Reader} {result : Result A SyntaxError} → is_opening opening ≡ true → ((inner : ℕ) (old new : MutBor Reader) (r : Result A SyntaxError) → Calls old inner r new → ReadsWithin Of seen inner old.now new.now r) → InBrackets opening closing depth Calls before after result → ReadsWithin (λ most x. Bracketed opening closing most (λ inner. Of inner x)) seen depth before after result
around_part is reads = around is (λ inner old new r call. within_up_to (reads inner old new r call))

-- a part that opens no bracket
pub around_words : {A B : Type 0} {opening closing : List ℕ} {depth : ℕ} {Of : B → Grammar} {seen : A → B} {Calls : MutBor Reader → ℕ → Result A SyntaxError → MutBor Reader → Type 0} {before after : Reader} {result : Result A SyntaxError} → is_opening opening ≡ true → ((inner : ℕ) (old new : MutBor Reader) (r : Result A SyntaxError) → Calls old inner r new → Reads Of seen old.now new.now r) → InBrackets opening closing depth Calls before after result → ReadsWithin (λ most x. Bracketed opening closing most (λ _. Of x)) seen depth before after result
around_words is reads = around_part is (λ inner old new r call. words_within (reads inner old new r call))

-- the ends of a `?` in what is read by its parts
pub refused_brackets : {A : Type 0} {opening closing : List ℕ} {depth : ℕ} {Calls : MutBor Reader → ℕ → Result A SyntaxError → MutBor Reader → Type 0} {before after : Reader} {e : SyntaxError} {result : Result A SyntaxError} → IsErrAnd result (λ d. d ≡ e) → InBrackets opening closing depth Calls before after (Err e) → InBrackets opening closing depth Calls before after result
refused_brackets {opening = opening} {closing = closing} {depth = depth} {Calls = Calls} {before = before} {after = after} = of_refusal (λ r. InBrackets opening closing depth Calls before after r)

pub refused_until : {A : Type 0} {Stop : Grammar} {Calls : MutBor Reader → Result A SyntaxError → MutBor Reader → Type 0} {before after : Reader} {e : SyntaxError} {result : Result (List A) SyntaxError} → IsErrAnd result (λ d. d ≡ e) → Until Stop Calls before after (Err e) → Until Stop Calls before after result
refused_until {Stop = Stop} {Calls = Calls} {before = before} {after = after} = of_refusal (λ r. Until Stop Calls before after r)

pub refused_then : {A : Type 0} {sign : List ℕ} {Calls : MutBor Reader → Result A SyntaxError → MutBor Reader → Type 0} {before after : Reader} {e : SyntaxError} {result : Result A SyntaxError} → IsErrAnd result (λ d. d ≡ e) → ThenSign sign Calls before after (Err e) → ThenSign sign Calls before after result
refused_then {sign = sign} {Calls = Calls} {before = before} {after = after} = of_refusal (λ r. ThenSign sign Calls before after r)

-- no part begins where it stops
pub record NoneAt {B : Type 0} (Stop : Grammar) (Of : ℕ → B → Grammar) : Type 0 where
  pub none : (more : ℕ) (one : B) (later : List B) (a c : List Word) → MayTake (Of more one ⨟ Each (Of more) later) a c → Stop a → ⊥

-- the parts that are read so far
record SoFar {A B : Type 0} (Stop : Grammar) (Of : ℕ → B → Grammar) (seen : List A → List B) (depth : ℕ) (before : Reader) (xs : List A) (now : Reader) : Type 0 where
  taken : MayTake (Each (Of depth) (seen xs)) (ahead before) (ahead now)
  only : (more : ℕ) (all : List B) (rest : List Word) → MayTake (Each (Of more) all) (ahead before) rest → Stop rest → Left (Of more) (seen xs) all (ahead now) rest

so_far : {A B : Type 0} {Stop : Grammar} {Calls : MutBor Reader → Result A SyntaxError → MutBor Reader → Type 0} (Of : ℕ → B → Grammar) (seen : A → B) (all_seen : List A → List B) (depth : ℕ) (before : Reader) (xs : List A) (now : Reader) → all_seen [] ≡ [] → ((ys : List A) (y : A) → all_seen (ys ++ y ∷ []) ≡ all_seen ys ++ seen y ∷ []) → ((old new : MutBor Reader) (r : Result A SyntaxError) → Calls old r new → ReadsWithin Of seen depth old.now new.now r) → OneByOne Stop Calls before xs now → SoFar Stop Of all_seen depth before xs now
so_far Of seen all_seen depth before xs now none grows reads NoneYet =
    record {
      taken = subst (λ ys. MayTake (Each (Of depth) ys) (ahead before) (ahead before)) (sym none) may_empty;
      only = λ more all rest m ends. subst (λ ys. Left (Of more) ys all (ahead before) rest) (sym none) (left_all (Of more) m);
    }
so_far {Stop = Stop} Of seen all_seen depth before xs now none grows reads (OneMore ys old new y earlier not_at call) =
    let s = so_far Of seen all_seen depth before ys old.now none grows reads earlier in
    let r = reads old new (Ok y) call in
    record {
      taken = subst (λ zs. MayTake (Each (Of depth) zs) (ahead before) (ahead now)) (sym (grows ys y)) (each_more (Of depth) (all_seen ys) (seen y) s.taken (may r.taken));
      only = λ more all rest m ends.
          let n = one_left (s.only more all rest m ends) (λ e. not_at (subst Stop (sym e) ends)) in
          let t = after n.ahead (λ b f g. r.only more n.one b f) in
          left_more n (grows ys y) t.0 t.1;
    }

-- one by one up to where it stops
one_by_one : {A B : Type 0} {Stop : Grammar} {depth : ℕ} {Of : ℕ → B → Grammar} (seen : A → B) (all_seen : List A → List B) {Calls : MutBor Reader → Result A SyntaxError → MutBor Reader → Type 0} {before after : Reader} {result : Result (List A) SyntaxError} → all_seen [] ≡ [] → ((ys : List A) (y : A) → all_seen (ys ++ y ∷ []) ≡ all_seen ys ++ seen y ∷ []) → NoneAt Stop Of → ((x : B) → Stays depth (Of depth x)) → ((old new : MutBor Reader) (r : Result A SyntaxError) → Calls old r new → ReadsWithin Of seen depth old.now new.now r) → Until Stop Calls before after result → ReadsUpTo Stop (λ most xs. Each (Of most) xs) all_seen depth before after result
one_by_one {Stop = Stop} {depth = depth} {Of = Of} seen all_seen {before = before} {after = after} none grows begins_none stay reads (Ended xs o at) =
    let s = so_far Of seen all_seen depth before xs after none grows reads o in
    record {
      taken = s.taken;
      only = λ more all rest m ends. none_left (s.only more all rest m ends) (λ one later f. begins_none.none more one later (ahead after) rest f at);
      deep = tt;
    }
one_by_one {Stop = Stop} {depth = depth} {Of = Of} seen all_seen {before = before} none grows begins_none stay reads (Refused xs old new e o not_at call same) =
    let s = so_far Of seen all_seen depth before xs old.now none grows reads o in
    let r = reads old new (Err e) call in
    record {
      taken = tt;
      only = λ more all rest m ends.
          let n = one_left (s.only more all rest m ends) (λ e. not_at (subst Stop (sym e) ends)) in
          wants n.ahead (λ b f g. r.only more n.one b f);
      deep = if_deep e (λ stop. subst (λ at. Stops (Opens depth) OpensNext (ahead before) (ahead at)) (sym same) (stop_opens depth 0 depth (omega arith) (even depth (stays_each (Of depth) stay (all_seen xs)) s.taken) stop)) r.deep;
    }
one_by_one seen all_seen none grows begins_none stay reads (Wanting e want) =
    record { taken = tt; only = λ more all rest m ends. want_or _ e want; deep = want_deep _ e want }

-- what is seen as it is
pub up_to : {A : Type 0} {Stop : Grammar} {depth : ℕ} {Of : ℕ → A → Grammar} {Calls : MutBor Reader → Result A SyntaxError → MutBor Reader → Type 0} {before after : Reader} {result : Result (List A) SyntaxError} → NoneAt Stop Of → ((x : A) → Stays depth (Of depth x)) → ((old new : MutBor Reader) (r : Result A SyntaxError) → Calls old r new → ReadsWithin Of (λ read. read) depth old.now new.now r) → Until Stop Calls before after result → ReadsUpTo Stop (λ most xs. Each (Of most) xs) (λ read. read) depth before after result
up_to = one_by_one (λ x. x) (λ xs. xs) refl (λ ys y. refl)

-- each seen as it is on the plain tree
pub up_to_seen : {A B : Type 0} {Stop : Grammar} {depth : ℕ} {Of : ℕ → B → Grammar} {seen : A → B} {Calls : MutBor Reader → Result A SyntaxError → MutBor Reader → Type 0} {before after : Reader} {result : Result (List A) SyntaxError} → NoneAt Stop Of → ((x : B) → Stays depth (Of depth x)) → ((old new : MutBor Reader) (r : Result A SyntaxError) → Calls old r new → ReadsWithin Of seen depth old.now new.now r) → Until Stop Calls before after result → ReadsUpTo Stop (λ most xs. Each (Of most) xs) (map seen) depth before after result
up_to_seen {seen = seen} = one_by_one seen (map seen) refl (λ ys y. map-append seen ys (y ∷ []))

-- the end of a `?`
pub refused_within : {A B : Type 0} {Of : ℕ → B → Grammar} {seen : A → B} {depth : ℕ} {before after : Reader} {result : Result A SyntaxError} (e : SyntaxError) → IsErrAnd result (λ d. d ≡ e) → ((more : ℕ) (x : B) (rest : List Word) → MayTake (Of more x) (ahead before) rest → WantsOr (more ≤ depth) e) → IfTooDeep (Stops (Opens depth) OpensNext (ahead before) (ahead after)) e → ReadsWithin Of seen depth before after result
refused_within {Of = Of} {seen = seen} {depth = depth} {before = before} {after = end} e is want deep =
    of_refusal (λ r. ReadsWithin Of seen depth before end r) is record { taken = tt; only = want; deep = deep }

-- where a part refuses behind words that leave no bracket open
pub part_deep : {Front : Grammar} {depth : ℕ} {a b : List Word} (c : List Word) (e : SyntaxError) → Stays depth Front → MayTake Front a b → IfTooDeep (Stops (Opens depth) OpensNext b c) e → IfTooDeep (Stops (Opens depth) OpensNext a c) e
part_deep {depth = depth} c e stays front deep = if_deep e (λ s. stop_opens depth 0 depth (omega arith) (even depth stays front) s) deep

-- behind a word that is always the same
pub behind_word : {A B : Type 0} {F : Word → Type 0} {Of : ℕ → B → Grammar} {seen : A → B} {depth : ℕ} {before end : Reader} {result : Result A SyntaxError} (mid : Reader) → Stays depth (One F) → Takes (One F) (ahead before) (ahead mid) → ReadsWithin Of seen depth mid end result → ReadsWithin (λ most x. One F ⨟ Of most x) seen depth before end result
behind_word {depth = depth} {result = Ok y} mid stays word r =
    record {
      taken = takes_both word r.taken;
      only = λ more x rest m. r.only more x rest (after_one m word);
      deep = tt;
    }
behind_word {depth = depth} {end = end} {result = Err e} mid stays word r =
    record {
      taken = tt;
      only = λ more x rest m. r.only more x rest (after_one m word);
      deep = part_deep (ahead end) e stays (may word) r.deep;
    }

pub refused_made : {A B I : Type 0} {Of : ℕ → B → Grammar} {seen : A → B} {made : I → B} {depth : ℕ} {before after : Reader} {result : Result A SyntaxError} (e : SyntaxError) → IsErrAnd result (λ d. d ≡ e) → ((more : ℕ) (of : I) (rest : List Word) → MayTake (Of more (made of)) (ahead before) rest → WantsOr (more ≤ depth) e) → IfTooDeep (Stops (Opens depth) OpensNext (ahead before) (ahead after)) e → ReadsMade Of seen made depth before after result
refused_made {Of = Of} {seen = seen} {made = made} {depth = depth} {before = before} {after = end} e is want deep =
    of_refusal (λ r. ReadsMade Of seen made depth before end r) is record { taken = tt; only = want; deep = deep }

-- how a bound that is passed in brackets is passed in the whole, and a bracket too many is one that is passed
pub record PassesIn (opening : List ℕ) (depth : ℕ) (Whole : List Word → List Word → Type 0) (Inside : ℕ → List Word → List Word → Type 0) : Type 0 where
  pub stops : (a : List Word) → OpensNext a → depth ≡ 0 → Whole a a
  pub grows : (inner : ℕ) (a b c : List Word) → depth ≡ inner + 1 → MayTake (Sign opening) a b → Inside inner b c → Whole a c

-- between brackets, a part with bounds that is read up to the closing sign
pub around_few : {A B : Type 0} {opening closing : List ℕ} {depth : ℕ} {Of : ℕ → B → Grammar} {seen : A → B} {Few : B → Type 0} {Whole : List Word → List Word → Type 0} {Inside : ℕ → List Word → List Word → Type 0} {Calls : MutBor Reader → ℕ → Result A SyntaxError → MutBor Reader → Type 0} {before after : Reader} {result : Result A SyntaxError} → is_opening opening ≡ true → PassesIn opening depth Whole Inside → ((inner : ℕ) (old new : MutBor Reader) (r : Result A SyntaxError) → Calls old inner r new → ReadsFewUpTo (Begins (IsSign closing)) Of seen Few (Inside inner) inner old.now new.now r) → InBrackets opening closing depth Calls before after result → ReadsFew (λ most x. Bracketed opening closing most (λ inner. Of inner x)) seen Few Whole depth before after result
around_few {opening = opening} {closing = closing} {depth = depth} {Of = Of} {Whole = Whole} {before = before} is passes reads (Unopened e refused same) =
    record {
      taken = tt;
      few = tt;
      only = λ more x rest m. opens_or opening closing more depth (λ n. Of n x) _ _ e (λ few. few.0) m refused;
      deep = if_deep e (λ h. subst (λ at. Whole (ahead before) (ahead at)) (sym same) (passes.stops (ahead before) h.0 h.1)) (forbidden opening is depth _ (ahead before) e refused);
    }
around_few {opening = opening} {closing = closing} {depth = depth} {Of = Of} {Whole = Whole} {before = before} is passes reads (Broken inner old new e more_open opened call same) =
    let r = reads inner old new (Err e) call in
    record {
      taken = tt;
      few = tt;
      only = λ more x rest m.
          let i = past_opening opening closing more depth inner (λ n. Of n x) more_open opened m in
          wants i.parts (λ b f s. or_as _ _ e (λ few. (i.fewer few.0, few.1)) (r.only i.within x b f (begins s)));
      deep = if_deep e (λ p. subst (λ at. Whole (ahead before) (ahead at)) (sym same) (passes.grows inner (ahead before) (ahead old.now) (ahead new.now) more_open (may opened) p)) r.deep;
    }
around_few {opening = opening} {closing = closing} {depth = depth} {Of = Of} is passes reads (Unclosed inner old new y e more_open opened call refused same) =
    let r = reads inner old new (Ok y) call in
    record {
      taken = tt;
      few = tt;
      only = λ more x rest m.
          let i = past_opening opening closing more depth inner (λ n. Of n x) more_open opened m in
          let m2 = after i.parts (λ b f s. r.only i.within x b f (begins s)) in
          want_or _ e (wants_one _ e (alone m2.1) refused);
      deep = refused_deep _ _ _ e refused;
    }
around_few {opening = opening} {closing = closing} {depth = depth} {Of = Of} {seen = seen} is passes reads (Closed inner old new y more_open opened call closed) =
    let r = reads inner old new (Ok y) call in
    record {
      taken = takes_bracketed opening closing depth inner (λ n. Of n (seen y)) more_open opened r.taken closed;
      few = r.few;
      only = λ more x rest m.
          let i = past_opening opening closing more depth inner (λ n. Of n x) more_open opened m in
          let m2 = after i.parts (λ b f s. r.only i.within x b f (begins s)) in
          (m2.0, same_end m2.1 closed);
      deep = tt;
    }

-- few is used of a list as of each of its things
pub record EachFew {B : Type 0} (Few : B → Type 0) (All : List B → Type 0) : Type 0 where
  pub nothing : All []
  pub push : (xs : List B) (x : B) → All xs → Few x → All (xs ++ x ∷ [])
  pub next : (xs : List B) (x : B) (later : List B) → All (xs ++ x ∷ later) → Few x

record FewSoFar {A B : Type 0} (Stop : Grammar) (Of : ℕ → B → Grammar) (seen : List A → List B) (All : List B → Type 0) (depth : ℕ) (before : Reader) (xs : List A) (now : Reader) : Type 0 where
  taken : MayTake (Each (Of depth) (seen xs)) (ahead before) (ahead now)
  few : All (seen xs)
  only : (more : ℕ) (all : List B) (rest : List Word) → MayTake (Each (Of more) all) (ahead before) rest → Stop rest → Left (Of more) (seen xs) all (ahead now) rest

few_so_far : {A B : Type 0} {Stop : Grammar} {Calls : MutBor Reader → Result A SyntaxError → MutBor Reader → Type 0} (Of : ℕ → B → Grammar) (seen : A → B) (Few : B → Type 0) (All : List B → Type 0) (Inside : List Word → List Word → Type 0) (depth : ℕ) (before : Reader) (xs : List A) (now : Reader) → EachFew Few All → ((old new : MutBor Reader) (r : Result A SyntaxError) → Calls old r new → ReadsFew Of seen Few Inside depth old.now new.now r) → OneByOne Stop Calls before xs now → FewSoFar Stop Of (map seen) All depth before xs now
few_so_far Of seen Few All Inside depth before xs now each reads NoneYet =
    record { taken = may_empty; few = each.nothing; only = λ more all rest m ends. left_all (Of more) m }
few_so_far {Stop = Stop} Of seen Few All Inside depth before xs now each reads (OneMore ys old new y earlier not_at call) =
    let s = few_so_far Of seen Few All Inside depth before ys old.now each reads earlier in
    let r = reads old new (Ok y) call in
    let grown : map seen (ys ++ y ∷ []) ≡ map seen ys ++ seen y ∷ [] = map-append seen ys (y ∷ []) in
    record {
      taken = subst (λ zs. MayTake (Each (Of depth) zs) (ahead before) (ahead now)) (sym grown) (each_more (Of depth) (map seen ys) (seen y) s.taken (may r.taken));
      few = subst All (sym grown) (each.push (map seen ys) (seen y) s.few r.few);
      only = λ more all rest m ends.
          let n = one_left (s.only more all rest m ends) (λ e. not_at (subst Stop (sym e) ends)) in
          let t = after n.ahead (λ b f g. r.only more n.one b f) in
          left_more n grown t.0 t.1;
    }

-- one by one up to where it stops, with bounds
pub few_up_to : {A B : Type 0} {Stop : Grammar} {depth : ℕ} {Of : ℕ → B → Grammar} {seen : A → B} (Few : B → Type 0) {All : List B → Type 0} (Inside : List Word → List Word → Type 0) {Whole : List Word → List Word → Type 0} {Calls : MutBor Reader → Result A SyntaxError → MutBor Reader → Type 0} {before after : Reader} {result : Result (List A) SyntaxError} → EachFew Few All → NoneAt Stop Of → ((x : B) → Stays depth (Of depth x)) → ((a b c : List Word) → MayTake (Opens 0) a b → Inside b c → Whole a c) → ((old new : MutBor Reader) (r : Result A SyntaxError) → Calls old r new → ReadsFew Of seen Few Inside depth old.now new.now r) → Until Stop Calls before after result → ReadsFewUpTo Stop (λ most xs. Each (Of most) xs) (map seen) All Whole depth before after result
few_up_to {Stop = Stop} {depth = depth} {Of = Of} {seen = seen} Few {All = All} Inside {before = before} {after = end} each begins_none stay grows reads (Ended xs o at) =
    let s = few_so_far Of seen Few All Inside depth before xs end each reads o in
    record {
      taken = s.taken;
      few = s.few;
      only = λ more all rest m ends. none_left (s.only more all rest m ends) (λ one later f. begins_none.none more one later (ahead end) rest f at);
      deep = tt;
    }
few_up_to {Stop = Stop} {depth = depth} {Of = Of} {seen = seen} Few {All = All} Inside {Whole = Whole} {before = before} each begins_none stay grows reads (Refused xs old new e o not_at call same) =
    let s = few_so_far Of seen Few All Inside depth before xs old.now each reads o in
    let r = reads old new (Err e) call in
    record {
      taken = tt;
      few = tt;
      only = λ more all rest m ends.
          let n = one_left (s.only more all rest m ends) (λ e. not_at (subst Stop (sym e) ends)) in
          wants n.ahead (λ b f g. or_as _ _ e (λ few. (few.0, each.next (map seen xs) n.one n.later (subst All n.whole few.1))) (r.only more n.one b f));
      deep = if_deep e (λ p. subst (λ at. Whole (ahead before) (ahead at)) (sym same) (grows (ahead before) (ahead old.now) (ahead new.now) (even depth (stays_each (Of depth) stay (map seen xs)) s.taken) p)) r.deep;
    }
few_up_to Few Inside each begins_none stay grows reads (Wanting e want) =
    record { taken = tt; few = tt; only = λ more all rest m ends. want_or _ e want; deep = want_deep _ e want }

-- a part, which ends where this sign stands, and the sign behind it
pub with_sign_before : {Follows : Grammar} {A B : Type 0} {sign : List ℕ} {depth : ℕ} {Of : ℕ → B → Grammar} {seen : A → B} {Calls : MutBor Reader → Result A SyntaxError → MutBor Reader → Type 0} {before after : Reader} {result : Result A SyntaxError} → ((ws : List Word) → Begins (IsSign sign) ws → Follows ws) → ((old new : MutBor Reader) (r : Result A SyntaxError) → Calls old r new → ReadsWithinBefore Follows Of seen depth old.now new.now r) → ThenSign sign Calls before after result → ReadsWithin (λ most x. Of most x ⨟ Sign sign) seen depth before after result
with_sign_before {sign = sign} {depth = depth} {Of = Of} {seen = seen} {before = before} {after = end} ends reads (NoPart old new e start call same) =
    let r = reads old new (Err e) call in
    subst (λ at. ReadsWithin (λ most x. Of most x ⨟ Sign sign) seen depth at end (Err e)) start
    record {
      taken = tt;
      only = λ more x rest m. wants m (λ b f s. r.only more x b f (ends b (begins s)));
      deep = if_deep e (λ p. subst (λ at. Stops (Opens depth) OpensNext (ahead old.now) (ahead at)) (sym same) p) r.deep;
    }
with_sign_before {sign = sign} {depth = depth} {Of = Of} {seen = seen} {before = before} {after = end} ends reads (NoSign old new y e start call refused same) =
    let r = reads old new (Ok y) call in
    subst (λ at. ReadsWithin (λ most x. Of most x ⨟ Sign sign) seen depth at end (Err e)) start
    record {
      taken = tt;
      only = λ more x rest m. let m2 = after m (λ b f s. r.only more x b f (ends b (begins s))) in want_or _ e (wants_one _ e (alone m2.1) refused);
      deep = refused_deep _ _ _ e refused;
    }
with_sign_before {sign = sign} {depth = depth} {Of = Of} {seen = seen} {before = before} {after = end} ends reads (Both old new y start call closed) =
    let r = reads old new (Ok y) call in
    subst (λ at. ReadsWithin (λ most x. Of most x ⨟ Sign sign) seen depth at end (Ok y)) start
    record {
      taken = takes_both r.taken closed;
      only = λ more x rest m. let m2 = after m (λ b f s. r.only more x b f (ends b (begins s))) in (m2.0, same_end m2.1 closed);
      deep = tt;
    }

-- any other part
pub with_sign : {A B : Type 0} {sign : List ℕ} {depth : ℕ} {Of : ℕ → B → Grammar} {seen : A → B} {Calls : MutBor Reader → Result A SyntaxError → MutBor Reader → Type 0} {before after : Reader} {result : Result A SyntaxError} → ((old new : MutBor Reader) (r : Result A SyntaxError) → Calls old r new → ReadsWithin Of seen depth old.now new.now r) → ThenSign sign Calls before after result → ReadsWithin (λ most x. Of most x ⨟ Sign sign) seen depth before after result
with_sign reads =
    with_sign_before {Follows = λ _. Unit {0}} (λ ws at. tt)
    (λ old new r call. let h = reads old new r call in record { taken = h.taken; only = λ more x rest m follows. h.only more x rest m; deep = h.deep })

-- A thing of two parts, read one after the other: the first is refused, or the second, or both are read.
abbrev pub TwoParts : {B I J : Type 0} → (ℕ → B → Grammar) → (ℕ → I → Grammar) → (ℕ → J → Grammar) → (B → I) → (B → J) → Type 0
TwoParts {B = B} Of First Then one other = (more : ℕ) (x : B) (a c : List Word) → MayTake (Of more x) a c → MayTake (First more (one x) ⨟ Then more (other x)) a c

pub no_first : {A B C I J : Type 0} {Of : ℕ → B → Grammar} {First : ℕ → I → Grammar} (Then : ℕ → J → Grammar) (one : B → I) (other : B → J) {seen : A → B} {first_seen : C → I} {depth : ℕ} {before after : Reader} {result : Result A SyntaxError} (e : SyntaxError) → TwoParts Of First Then one other → IsErrAnd result (λ d. d ≡ e) → ReadsWithin First first_seen depth before after (Err e) → ReadsWithin Of seen depth before after result
no_first Then one other e parts is r = refused_within e is (λ more x rest m. wants (parts more x _ _ m) (λ b f s. r.only more (one x) b f)) r.deep

pub no_second : {A B C D I J : Type 0} {Of : ℕ → B → Grammar} {First : ℕ → I → Grammar} {Then : ℕ → J → Grammar} (one : B → I) (other : B → J) {seen : A → B} {first_seen : C → I} {then_seen : D → J} {depth : ℕ} {before after : Reader} {result : Result A SyntaxError} (mid : Reader) (y : C) (e : SyntaxError) → TwoParts Of First Then one other → IsErrAnd result (λ d. d ≡ e) → Stays depth (First depth (first_seen y)) → ReadsWithin First first_seen depth before mid (Ok y) → ReadsWithin Then then_seen depth mid after (Err e) → ReadsWithin Of seen depth before after result
no_second one other {after = end} mid y e parts is stays r q =
    refused_within e is (λ more x rest m. let t = after (parts more x _ _ m) (λ b f s. r.only more (one x) b f) in q.only more (other x) rest t.1) (part_deep (ahead end) e stays (may r.taken) q.deep)

pub both_parts : {A B C D I J : Type 0} {Of : ℕ → B → Grammar} {First : ℕ → I → Grammar} {Then : ℕ → J → Grammar} (one : B → I) (other : B → J) {seen : A → B} {first_seen : C → I} {then_seen : D → J} {depth : ℕ} {before after : Reader} (mid : Reader) (y : C) (z : D) (w : A) → TwoParts Of First Then one other → (Takes (First depth (first_seen y) ⨟ Then depth (then_seen z)) (ahead before) (ahead after) → Takes (Of depth (seen w)) (ahead before) (ahead after)) → ((x : B) → first_seen y ≡ one x → then_seen z ≡ other x → seen w ≡ x) → ReadsWithin First first_seen depth before mid (Ok y) → ReadsWithin Then then_seen depth mid after (Ok z) → ReadsWithin Of seen depth before after (Ok w)
both_parts one other mid y z w parts joined same r q =
    record {
      taken = joined (takes_both r.taken q.taken);
      only = λ more x rest m.
          let t = after (parts more x _ _ m) (λ b f s. r.only more (one x) b f) in
          let u = q.only more (other x) rest t.1 in
          (same x t.0 u.0, u.1);
      deep = tt;
    }

-- a reader with bounds that stands for itself whatever follows
pub few_up : {A B : Type 0} {Follows : Grammar} {Of : ℕ → B → Grammar} {seen : A → B} {Few : B → Type 0} {Passed : List Word → List Word → Type 0} {depth : ℕ} {before after : Reader} {result : Result A SyntaxError} → ReadsFew Of seen Few Passed depth before after result → ReadsFewUpTo Follows Of seen Few Passed depth before after result
few_up {Of = Of} {seen = seen} {depth = depth} {before = before} {after = end} {result = result} r =
    record { taken = taken_may (Of depth) seen (ahead before) (ahead end) result r.taken; few = r.few; only = λ more x rest m follows. r.only more x rest m; deep = r.deep }

-- with bounds, behind a word that is always the same
pub behind_few : {A B : Type 0} {F : Word → Type 0} {Of : ℕ → B → Grammar} {seen : A → B} {Few : B → Type 0} {Passed Whole : List Word → List Word → Type 0} {depth : ℕ} {before end : Reader} {result : Result A SyntaxError} (mid : Reader) → ((c : List Word) → MayTake (One F) (ahead before) (ahead mid) → Passed (ahead mid) c → Whole (ahead before) c) → Takes (One F) (ahead before) (ahead mid) → ReadsFew Of seen Few Passed depth mid end result → ReadsFew (λ most x. One F ⨟ Of most x) seen Few Whole depth before end result
behind_few {result = Ok y} mid grows word r = record { taken = takes_both word r.taken; few = r.few; only = λ more x rest m. r.only more x rest (after_one m word); deep = tt }
behind_few {end = end} {result = Err e} mid grows word r = record { taken = tt; few = tt; only = λ more x rest m. r.only more x rest (after_one m word); deep = if_deep e (grows (ahead end) (may word)) r.deep }

-- a thing that is made of what is read
pub made_of : {A B C I : Type 0} {Of : ℕ → B → Grammar} {seen : A → B} {made : I → B} {part_seen : C → I} {Makes : C → A → Type 0} {depth : ℕ} {before after : Reader} {part : Result C SyntaxError} {result : Result A SyntaxError} → ((y : C) (z : A) → Makes y z → seen z ≡ made (part_seen y)) → MatchResult part (λ y. IsOkAnd result (Makes y)) (λ e. result ≡ Err e) → ReadsWithin (λ most i. Of most (made i)) part_seen depth before after part → ReadsMade Of seen made depth before after result
made_of {Of = Of} {made = made} {depth = depth} {before = before} {after = end} {part = Ok y} {result = Ok z} makes is r =
    record {
      taken = subst (λ x. Takes (Of depth x) (ahead before) (ahead end)) (sym (makes y z is)) r.taken;
      only = λ more i rest m. let t = r.only more i rest m in (makes y z is ∙ ap made t.0, t.1);
      deep = tt;
    }
made_of {part = Ok y} {result = Err e} makes is r = absurd is
made_of {Of = Of} {seen = seen} {made = made} {depth = depth} {before = before} {after = end} {part = Err e} makes is r =
    subst (λ x. ReadsMade Of seen made depth before end x) (sym is) record { taken = tt; only = r.only; deep = r.deep }
