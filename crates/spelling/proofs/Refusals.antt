-- The end of a `?` in a reader: what the refused part answers, the reader answers.
use Rattle.std.proofs.Common.{◌≡◌, ℕ, ◌≤◌, List, Result, Ok, Err, sym, subst}
use Rattle.std.specs.Result.{IsErrAnd}
use Rattle.spelling.specs.Words.{Word}
use Rattle.spelling.specs.Grammar.{Grammar}
use Rattle.spelling.specs.Bounds.{IfTooDeep, IsNeverDeep, Line, Opens, OpensNext, Stops}
use Rattle.spelling.specs.Reading.{ahead, IsWant, MayTake, WantsOr}
use Rattle.spelling.specs.declared.error.SyntaxError.{SyntaxError}
use Rattle.spelling.specs.declared.reader.Reader.{Reader}
use Rattle.spelling.specs.Readers.{Reads, ReadsBefore, ReadsFew, ReadsFewBefore, ReadsFewMade, ReadsFewUpTo, ReadsLine, ReadsLineBefore, ReadsLineMade, ReadsLineUpTo, ReadsUpTo, ReadsWithinBefore}

-- what holds of a refusal holds of a result that is it
pub of_refusal : {A : Type 0} (Holds : Result A SyntaxError → Type 0) {result : Result A SyntaxError} {e : SyntaxError} → IsErrAnd result (λ d. d ≡ e) → Holds (Err e) → Holds result
of_refusal Holds {result = Ok y} is h = absurd is
of_refusal Holds {result = Err d} is h = subst (λ e. Holds (Err e)) (sym is) h

pub refused_reads : {A B : Type 0} {Of : B → Grammar} {seen : A → B} {before after : Reader} {result : Result A SyntaxError} (e : SyntaxError) → IsErrAnd result (λ d. d ≡ e) → ((x : B) (rest : List Word) → MayTake (Of x) (ahead before) rest → IsWant e) → IsNeverDeep e → Reads Of seen before after result
refused_reads {Of = Of} {seen = seen} {before = before} {after = end} e is want shallow =
    of_refusal (λ r. Reads Of seen before end r) is record { taken = tt; only = want; shallow = shallow }

pub refused_before : {A B : Type 0} {Follows : Grammar} {Of : B → Grammar} {seen : A → B} {before after : Reader} {result : Result A SyntaxError} (e : SyntaxError) → IsErrAnd result (λ d. d ≡ e) → ((x : B) (rest : List Word) → MayTake (Of x) (ahead before) rest → Follows rest → IsWant e) → IsNeverDeep e → ReadsBefore Follows Of seen before after result
refused_before {Follows = Follows} {Of = Of} {seen = seen} {before = before} {after = end} e is want shallow =
    of_refusal (λ r. ReadsBefore Follows Of seen before end r) is record { taken = tt; only = want; shallow = shallow }

pub refused_within_before : {A B : Type 0} {Follows : Grammar} {Of : ℕ → B → Grammar} {seen : A → B} {depth : ℕ} {before after : Reader} {result : Result A SyntaxError} (e : SyntaxError) → IsErrAnd result (λ d. d ≡ e) → ((more : ℕ) (x : B) (rest : List Word) → MayTake (Of more x) (ahead before) rest → Follows rest → WantsOr (more ≤ depth) e) → IfTooDeep (Stops (Opens depth) OpensNext (ahead before) (ahead after)) e → ReadsWithinBefore Follows Of seen depth before after result
refused_within_before {Follows = Follows} {Of = Of} {seen = seen} {depth = depth} {before = before} {after = end} e is want deep =
    of_refusal (λ r. ReadsWithinBefore Follows Of seen depth before end r) is record { taken = tt; only = want; deep = deep }

pub refused_line : {A B : Type 0} {Of : ℕ → B → Grammar} {seen : A → B} {depth : ℕ} {before after : Reader} {result : Result A SyntaxError} (e : SyntaxError) → IsErrAnd result (λ d. d ≡ e) → ((more : ℕ) (x : B) (rest : List Word) → MayTake (Of more x) (ahead before) rest → WantsOr (more ≤ depth) e) → IfTooDeep (Stops (Line depth) OpensNext (ahead before) (ahead after)) e → ReadsLine Of seen depth before after result
refused_line {Of = Of} {seen = seen} {depth = depth} {before = before} {after = end} e is want deep =
    of_refusal (λ r. ReadsLine Of seen depth before end r) is record { taken = tt; only = want; deep = deep }

pub refused_line_before : {A B : Type 0} {Follows : Grammar} {Of : ℕ → B → Grammar} {seen : A → B} {depth : ℕ} {before after : Reader} {result : Result A SyntaxError} (e : SyntaxError) → IsErrAnd result (λ d. d ≡ e) → ((more : ℕ) (x : B) (rest : List Word) → MayTake (Of more x) (ahead before) rest → Follows rest → WantsOr (more ≤ depth) e) → IfTooDeep (Stops (Line depth) OpensNext (ahead before) (ahead after)) e → ReadsLineBefore Follows Of seen depth before after result
refused_line_before {Follows = Follows} {Of = Of} {seen = seen} {depth = depth} {before = before} {after = end} e is want deep =
    of_refusal (λ r. ReadsLineBefore Follows Of seen depth before end r) is record { taken = tt; only = want; deep = deep }

pub refused_line_up_to : {A B : Type 0} {Follows : Grammar} {Of : ℕ → B → Grammar} {seen : A → B} {depth : ℕ} {before after : Reader} {result : Result A SyntaxError} (e : SyntaxError) → IsErrAnd result (λ d. d ≡ e) → ((more : ℕ) (x : B) (rest : List Word) → MayTake (Of more x) (ahead before) rest → Follows rest → WantsOr (more ≤ depth) e) → IfTooDeep (Stops (Line depth) OpensNext (ahead before) (ahead after)) e → ReadsLineUpTo Follows Of seen depth before after result
refused_line_up_to {Follows = Follows} {Of = Of} {seen = seen} {depth = depth} {before = before} {after = end} e is want deep =
    of_refusal (λ r. ReadsLineUpTo Follows Of seen depth before end r) is record { taken = tt; only = want; deep = deep }

pub refused_line_made : {A B I : Type 0} {Follows : Grammar} {Of : ℕ → B → Grammar} {seen : A → B} {made : I → B} {depth : ℕ} {before after : Reader} {result : Result A SyntaxError} (e : SyntaxError) → IsErrAnd result (λ d. d ≡ e) → ((more : ℕ) (of : I) (rest : List Word) → MayTake (Of more (made of)) (ahead before) rest → Follows rest → WantsOr (more ≤ depth) e) → IfTooDeep (Stops (Line depth) OpensNext (ahead before) (ahead after)) e → ReadsLineMade Follows Of seen made depth before after result
refused_line_made {Follows = Follows} {Of = Of} {seen = seen} {made = made} {depth = depth} {before = before} {after = end} e is want deep =
    of_refusal (λ r. ReadsLineMade Follows Of seen made depth before end r) is record { taken = tt; only = want; deep = deep }

pub refused_up_to : {A B : Type 0} {Follows : Grammar} {Of : ℕ → B → Grammar} {seen : A → B} {depth : ℕ} {before after : Reader} {result : Result A SyntaxError} (e : SyntaxError) → IsErrAnd result (λ d. d ≡ e) → ((more : ℕ) (x : B) (rest : List Word) → MayTake (Of more x) (ahead before) rest → Follows rest → WantsOr (more ≤ depth) e) → IfTooDeep (Stops (Opens depth) OpensNext (ahead before) (ahead after)) e → ReadsUpTo Follows Of seen depth before after result
refused_up_to {Follows = Follows} {Of = Of} {seen = seen} {depth = depth} {before = before} {after = end} e is want deep =
    of_refusal (λ r. ReadsUpTo Follows Of seen depth before end r) is record { taken = tt; only = want; deep = deep }

pub refused_few : {A B : Type 0} {Of : ℕ → B → Grammar} {seen : A → B} {Few : B → Type 0} {Passed : List Word → List Word → Type 0} {depth : ℕ} {before after : Reader} {result : Result A SyntaxError} (e : SyntaxError) → IsErrAnd result (λ d. d ≡ e) → ((more : ℕ) (x : B) (rest : List Word) → MayTake (Of more x) (ahead before) rest → WantsOr ((more ≤ depth) × Few x) e) → IfTooDeep (Passed (ahead before) (ahead after)) e → ReadsFew Of seen Few Passed depth before after result
refused_few {Of = Of} {seen = seen} {Few = Few} {Passed = Passed} {depth = depth} {before = before} {after = end} e is want deep =
    of_refusal (λ r. ReadsFew Of seen Few Passed depth before end r) is record { taken = tt; few = tt; only = want; deep = deep }

pub refused_few_made : {A B I : Type 0} {Of : ℕ → B → Grammar} {seen : A → B} {made : I → B} {Few : B → Type 0} {Passed : List Word → List Word → Type 0} {depth : ℕ} {before after : Reader} {result : Result A SyntaxError} (e : SyntaxError) → IsErrAnd result (λ d. d ≡ e) → ((more : ℕ) (of : I) (rest : List Word) → MayTake (Of more (made of)) (ahead before) rest → WantsOr ((more ≤ depth) × Few (made of)) e) → IfTooDeep (Passed (ahead before) (ahead after)) e → ReadsFewMade Of seen made Few Passed depth before after result
refused_few_made {Of = Of} {seen = seen} {made = made} {Few = Few} {Passed = Passed} {depth = depth} {before = before} {after = end} e is want deep =
    of_refusal (λ r. ReadsFewMade Of seen made Few Passed depth before end r) is record { taken = tt; few = tt; only = want; deep = deep }

pub refused_few_up_to : {A B : Type 0} {Follows : Grammar} {Of : ℕ → B → Grammar} {seen : A → B} {Few : B → Type 0} {Passed : List Word → List Word → Type 0} {depth : ℕ} {before after : Reader} {result : Result A SyntaxError} (e : SyntaxError) → IsErrAnd result (λ d. d ≡ e) → ((more : ℕ) (x : B) (rest : List Word) → MayTake (Of more x) (ahead before) rest → Follows rest → WantsOr ((more ≤ depth) × Few x) e) → IfTooDeep (Passed (ahead before) (ahead after)) e → ReadsFewUpTo Follows Of seen Few Passed depth before after result
refused_few_up_to {Follows = Follows} {Of = Of} {seen = seen} {Few = Few} {Passed = Passed} {depth = depth} {before = before} {after = end} e is want deep =
    of_refusal (λ r. ReadsFewUpTo Follows Of seen Few Passed depth before end r) is record { taken = tt; few = tt; only = want; deep = deep }

pub refused_few_before : {A B : Type 0} {Follows : Grammar} {Of : ℕ → B → Grammar} {seen : A → B} {Few : B → Type 0} {Passed : List Word → List Word → Type 0} {depth : ℕ} {before after : Reader} {result : Result A SyntaxError} (e : SyntaxError) → IsErrAnd result (λ d. d ≡ e) → ((more : ℕ) (x : B) (rest : List Word) → MayTake (Of more x) (ahead before) rest → Follows rest → WantsOr ((more ≤ depth) × Few x) e) → IfTooDeep (Passed (ahead before) (ahead after)) e → ReadsFewBefore Follows Of seen Few Passed depth before after result
refused_few_before {Follows = Follows} {Of = Of} {seen = seen} {Few = Few} {Passed = Passed} {depth = depth} {before = before} {after = end} e is want deep =
    of_refusal (λ r. ReadsFewBefore Follows Of seen Few Passed depth before end r) is record { taken = tt; few = tt; only = want; deep = deep }
