-- Readers within one statement: their brackets, and what they are within a whole that is no statement.
use Rattle.std.proofs.Common.{◌≡◌, ℕ, ◌≤◌, true, List, [], Result, Ok, Err, refl, subst, sym, arith}
use denote.Ref.{MutBor}
use Rattle.std.specs.Prelude.{IfOk}
use Rattle.spelling.specs.Words.{Word}
use Rattle.spelling.specs.Grammar.{Grammar, ◌⨟◌, Begins, Bracketed, IsSign, One, Sign}
use Rattle.spelling.specs.Brackets.{is_opening}
use Rattle.spelling.specs.Bounds.{IfTooDeep, Line, Opens, OpensNext, Stops}
use Rattle.spelling.specs.Reading.{ahead, MayNotOpen, MayTake, Takes}
use Rattle.spelling.specs.declared.error.SyntaxError.{SyntaxError}
use Rattle.spelling.specs.declared.reader.Reader.{Reader}
use Rattle.spelling.specs.Readers.{InBrackets, Reads, ReadsBefore, ReadsFewUpTo, ReadsLine, ReadsUpTo, ReadsWithinBefore}
use Rattle.spelling.proofs.Balance.{Stays}
use Rattle.spelling.proofs.Only.{after_one}
use Rattle.spelling.proofs.Taking.{may, takes_both}
use Rattle.spelling.proofs.Bounds.{InLine, deep_as, forbidden, if_deep, in_line, line_none, line_open, line_opens, stop_as, stop_line}
use Rattle.spelling.proofs.ByParts.{PassesIn, around_few, part_deep, taken_may}
use Rattle.spelling.proofs.Limits.{answer_reading, reading_as}

passes_in_line : (opening : List ℕ) (depth : ℕ) → is_opening opening ≡ true → InLine (Sign opening) → PassesIn opening depth (Stops (Line depth) OpensNext) (λ inner. Stops (Line inner) OpensNext)
passes_in_line opening depth is in_it =
    record {
      stops = λ a next e. record { front = []; joined = refl; begun = subst (λ n. Line n []) (sym e) line_none; next = next };
      grows = λ inner a b c e m p. stop_line depth 1 inner (omega (arith, e)) (line_open opening is in_it m) p;
    }

of_any : {A : Type 0} (r : Result A SyntaxError) → IfOk r (λ _. Unit {0})
of_any (Ok y) = tt
of_any (Err e) = tt

-- a part without a depth, between brackets
pub around_line : {A B : Type 0} {opening closing : List ℕ} {depth : ℕ} {Of : B → Grammar} {seen : A → B} {Calls : MutBor Reader → ℕ → Result A SyntaxError → MutBor Reader → Type 0} {before after : Reader} {result : Result A SyntaxError} → is_opening opening ≡ true → InLine (Sign opening) → ((inner : ℕ) (old new : MutBor Reader) (r : Result A SyntaxError) → Calls old inner r new → Reads Of seen old.now new.now r) → InBrackets opening closing depth Calls before after result → ReadsLine (λ most x. Bracketed opening closing most (λ _. Of x)) seen depth before after result
around_line {opening = opening} {closing = closing} {depth = depth} {Of = Of} {seen = seen} {before = before} {after = end} {result = result} is in_it reads brackets =
    let part : (inner : ℕ) (old new : MutBor Reader) (r : Result _ SyntaxError) → _ → ReadsFewUpTo (Begins (IsSign closing)) (λ _. Of) seen (λ _. Unit {0}) (Stops (Line inner) OpensNext) inner old.now new.now r = λ inner old new r call.
    let h = reads inner old new r call in
    record {
      taken = taken_may Of seen (ahead old.now) (ahead new.now) r h.taken;
      few = of_any r;
      only = λ more x rest m follows. answer_reading _ seen x rest (ahead new.now) r (h.only x rest m);
      deep = deep_as r (λ no. absurd no) h.shallow;
    }
    in
    let w = around_few is (passes_in_line opening depth is in_it) part brackets in
    record {
      taken = w.taken;
      only = λ more x rest m. reading_as _ _ seen x rest (ahead end) result (λ few. (few, tt)) (w.only more x rest m);
      deep = w.deep;
    }

-- where a part within one statement refuses behind words of the same statement
pub line_deep : {Front : Grammar} {depth : ℕ} {a b : List Word} (c : List Word) (e : SyntaxError) → Stays depth Front → InLine Front → MayTake Front a b → IfTooDeep (Stops (Line depth) OpensNext b c) e → IfTooDeep (Stops (Line depth) OpensNext a c) e
line_deep {depth = depth} c e stays in_it front deep = if_deep e (λ s. stop_line depth 0 depth (omega arith) (in_line depth stays in_it front) s) deep

-- behind words that leave no bracket open
pub line_part_deep : {Front : Grammar} {depth : ℕ} {a b : List Word} (c : List Word) (e : SyntaxError) → Stays depth Front → MayTake Front a b → IfTooDeep (Stops (Line depth) OpensNext b c) e → IfTooDeep (Stops (Opens depth) OpensNext a c) e
line_part_deep {depth = depth} c e stays front deep = part_deep c e stays front (if_deep e (λ s. stop_as (line_opens depth) s) deep)

-- a part that is read up to what follows it
pub before_up_to : {A B : Type 0} {Follows Next : Grammar} {Of : B → Grammar} {seen : A → B} {depth : ℕ} {before after : Reader} {result : Result A SyntaxError} → ((ws : List Word) → Next ws → Follows ws) → ReadsBefore Follows Of seen before after result → ReadsUpTo Next (λ _. Of) seen depth before after result
before_up_to {Of = Of} {seen = seen} {depth = depth} {before = before} {after = end} {result = result} ends r =
    record {
      taken = taken_may Of seen (ahead before) (ahead end) result r.taken;
      only = λ more x rest m next. answer_reading (more ≤ depth) seen x rest (ahead end) result (r.only x rest m (ends rest next));
      deep = deep_as result (λ no. absurd no) r.shallow;
    }

pub within_before_up_to : {A B : Type 0} {Follows Next : Grammar} {Of : ℕ → B → Grammar} {seen : A → B} {depth : ℕ} {before after : Reader} {result : Result A SyntaxError} → ((ws : List Word) → Next ws → Follows ws) → ReadsWithinBefore Follows Of seen depth before after result → ReadsUpTo Next Of seen depth before after result
within_before_up_to {Of = Of} {seen = seen} {depth = depth} {before = before} {after = end} {result = result} ends r =
    record {
      taken = taken_may (Of depth) seen (ahead before) (ahead end) result r.taken;
      only = λ more x rest m next. r.only more x rest m (ends rest next);
      deep = r.deep;
    }

-- a bracket that may not be opened
pub stop_line_open : (depth : ℕ) (text : List ℕ) (at : ℕ) {a c : List Word} (e : SyntaxError) → is_opening text ≡ true → c ≡ a → MayNotOpen (Begins (IsSign text) a) depth at e → IfTooDeep (Stops (Line depth) OpensNext a c) e
stop_line_open depth text at {a = a} e is same refused =
    if_deep e
    (λ h. subst (Stops (Line depth) OpensNext a) (sym same) record { front = []; joined = refl; begun = subst (λ n. Line n []) (sym h.1) line_none; next = h.0 })
    (forbidden text is depth at a e refused)

-- behind a word, within one statement
pub behind_line : {A B : Type 0} {F : Word → Type 0} {Of : ℕ → B → Grammar} {seen : A → B} {depth : ℕ} {before end : Reader} {result : Result A SyntaxError} (mid : Reader) → Stays depth (One F) → InLine (One F) → Takes (One F) (ahead before) (ahead mid) → ReadsLine Of seen depth mid end result → ReadsLine (λ most x. One F ⨟ Of most x) seen depth before end result
behind_line {result = Ok y} mid stays in_it word r = record { taken = takes_both word r.taken; only = λ more x rest m. r.only more x rest (after_one m word); deep = tt }
behind_line {end = end} {result = Err e} mid stays in_it word r = record { taken = tt; only = λ more x rest m. r.only more x rest (after_one m word); deep = line_deep (ahead end) e stays in_it (may word) r.deep }
