-- Readers with bounds: a refusal of what can be read is want of memory, or a bound that is passed.
use Rattle.std.proofs.Common.{◌≡◌, ℕ, zero, suc, ◌+◌, ◌≤◌, List, Result, Ok, Err, sym, subst, arith}
use Rattle.std.specs.Result.{IsErrAnd}
use Rattle.spelling.specs.Words.{Word}
use Rattle.spelling.specs.Grammar.{Grammar, ◌⨟◌, Sign, IsSign, Begins, Bracketed}
use Rattle.spelling.specs.declared.error.SyntaxError.{SyntaxError}
use Rattle.spelling.specs.declared.error.SyntaxError.TheVariants as error
use Rattle.spelling.specs.Reading.{Takes, MayTake, MayNotOpen, IsWant, WantsOr, IsSameRefusal, IsAnswer, IsReading, IsReadWithin}
use Rattle.spelling.proofs.Only.{after_one, begins_first}

-- want of memory alone
pub want_or : (Few : Type 0) (e : SyntaxError) → IsWant e → WantsOr Few e
want_or Few error.Memory w = tt
want_or Few (error.NotProgram token) w = w
want_or Few (error.TooDeep token) w = absurd w

-- a part uses no more than the whole
pub or_as : (Few Part : Type 0) (e : SyntaxError) → (Few → Part) → WantsOr Part e → WantsOr Few e
or_as Few Part error.Memory f w = w
or_as Few Part (error.NotProgram token) f w = w
or_as Few Part (error.TooDeep token) f w = λ few. w (f few)

pub reading_as : {A B : Type 0} (Few Part : Type 0) (seen : A → B) (x : B) (rest now : List Word) (r : Result A SyntaxError) → (Few → Part) → IsReading Part seen x rest now r → IsReading Few seen x rest now r
reading_as Few Part seen x rest now (Ok y) f h = h
reading_as Few Part seen x rest now (Err e) f h = or_as Few Part e f h

-- a refusal of the same kind
pub or_same : (Few : Type 0) (d e : SyntaxError) → IsSameRefusal d e → WantsOr Few d → WantsOr Few e
or_same Few error.Memory error.Memory s w = tt
or_same Few error.Memory (error.NotProgram token) s w = s
or_same Few error.Memory (error.TooDeep token) s w = absurd s
or_same Few (error.NotProgram token) e s w = absurd w
or_same Few (error.TooDeep token) error.Memory s w = tt
or_same Few (error.TooDeep token) (error.NotProgram other) s w = s
or_same Few (error.TooDeep token) (error.TooDeep other) s w = w

-- a reader without bounds
pub answer_reading : {A B : Type 0} (Few : Type 0) (seen : A → B) (x : B) (rest now : List Word) (r : Result A SyntaxError) → IsAnswer seen x rest now r → IsReading Few seen x rest now r
answer_reading Few seen x rest now (Ok y) h = h
answer_reading Few seen x rest now (Err e) h = want_or Few e h

-- the end of a `?`
pub or_answers : {A B : Type 0} (Few : Type 0) (seen : A → B) (x : B) (rest now : List Word) (e : SyntaxError) (r : Result A SyntaxError) → IsErrAnd r (λ d. d ≡ e) → WantsOr Few e → IsReading Few seen x rest now r
or_answers Few seen x rest now e (Ok y) is want = absurd is
or_answers Few seen x rest now e (Err d) is want = subst (WantsOr Few) (sym is) want

pub or_reads : {A B : Type 0} (Few : Type 0) (seen : A → B) (x : B) (e : SyntaxError) (r : Result A SyntaxError) → IsErrAnd r (λ d. d ≡ e) → WantsOr Few e → IsReadWithin Few seen x r
or_reads Few seen x e (Ok y) is want = absurd is
or_reads Few seen x e (Err d) is want = subst (WantsOr Few) (sym is) want

-- brackets of which as many may be open as a depth says are never refused
pub opens_or : (opening closing : List ℕ) (more depth : ℕ) (Between : ℕ → Grammar) (Few : Type 0) {a d : List Word} (at : ℕ) (e : SyntaxError) → (Few → more ≤ depth) → MayTake (Bracketed opening closing more Between) a d → MayNotOpen (Begins (IsSign opening) a) depth at e → WantsOr Few e
opens_or opening closing zero depth Between Few at e few m r = absurd m.spelled
opens_or opening closing (suc more) depth Between Few at error.Memory few m r = tt
opens_or opening closing (suc more) depth Between Few at (error.NotProgram token) few m r = r.1 (begins_first m)
opens_or opening closing (suc more) depth Between Few at (error.TooDeep token) few m r = λ h. let le : suc more ≤ depth = few h in omega (arith, le, r.2)

-- what stands between brackets, and may open one bracket fewer
pub record Inside (more depth inner : ℕ) (Parts : ℕ → Grammar) (a d : List Word) : Type 0 where
  pub within : ℕ
  pub fewer : more ≤ depth → within ≤ inner
  pub parts : MayTake (Parts within) a d

pub inside : (opening closing : List ℕ) (more depth inner : ℕ) (Between : ℕ → Grammar) {a d : List Word} → depth ≡ inner + 1 → MayTake (Bracketed opening closing more Between) a d → Inside more depth inner (λ n. Sign opening ⨟ Between n ⨟ Sign closing) a d
inside opening closing zero depth inner Between e m = absurd m.spelled
inside opening closing (suc more) depth inner Between e m = record { within = more; fewer = λ le. omega (arith, le, e); parts = m }

-- what stands behind an opening bracket that is read
pub past_opening : (opening closing : List ℕ) (more depth inner : ℕ) (Between : ℕ → Grammar) {a b d : List Word} → depth ≡ inner + 1 → Takes (Sign opening) a b → MayTake (Bracketed opening closing more Between) a d → Inside more depth inner (λ n. Between n ⨟ Sign closing) b d
past_opening opening closing more depth inner Between e o m =
    let i = inside opening closing more depth inner Between e m in
    record { within = i.within; fewer = i.fewer; parts = after_one i.parts o }
