-- What a reader has taken of the words before it, this project's own.
use Rattle.std.specs.Prelude.{◌≡◌, ℕ, ◌-◌, ◌^◌, ◌<◌, ◌≤◌, min, List, [], ◌∷◌, ◌++◌, drop, length, Result, Ok, Err}
use Rattle.spelling.specs.Words.{Word, words}
use Rattle.spelling.specs.Grammar.{Grammar, Begins, IsSign}
use Rattle.spelling.specs.declared.error.SyntaxError.{SyntaxError}
use Rattle.spelling.specs.declared.error.SyntaxError.TheVariants as error
use Rattle.spelling.specs.declared.reader.Reader.{Reader}

-- the words from the reader's place on
abbrev pub ahead : Reader → List Word
ahead reader = words reader.text.now (drop reader.next reader.tokens.now)

-- the number of the reader's token, or the greatest number of 32 bits
abbrev pub token_place : Reader → ℕ
token_place reader = min reader.next (2 ^ 32 - 1)

-- a grammar spells the words between two places, of which there is at least one
pub record Takes (Of : Grammar) (before : List Word) (after : List Word) : Type 0 where
  pub front : List Word
  pub joined : before ≡ front ++ after
  pub spelled : Of front
  pub fewer : length after < length before

-- a grammar spells the words between two places, perhaps none
pub record MayTake (Of : Grammar) (before : List Word) (after : List Word) : Type 0 where
  pub front : List Word
  pub joined : before ≡ front ++ after
  pub spelled : Of front

-- A reader may refuse what stands before it: for want of memory, or else at its own place, and then what it reads
-- doesn't stand there.
abbrev pub MayRefuse : Type 0 → ℕ → SyntaxError → Type 0
MayRefuse Stands at error.Memory = Unit {0}
MayRefuse Stands at (error.NotProgram token) = (token ≡ at) × (Stands → ⊥)
MayRefuse Stands at (error.TooDeep token) = ⊥

-- the same of a reader of an opening bracket, which the depth may forbid
abbrev pub MayNotOpen : Type 0 → ℕ → ℕ → SyntaxError → Type 0
MayNotOpen Stands depth at error.Memory = ⊥
MayNotOpen Stands depth at (error.NotProgram token) = (token ≡ at) × (Stands → ⊥)
MayNotOpen Stands depth at (error.TooDeep token) = (token ≡ at) × Stands × (depth ≡ 0)

-- want of memory, which says nothing of the words
abbrev pub IsWant : SyntaxError → Type 0
IsWant error.Memory = Unit {0}
IsWant (error.NotProgram token) = ⊥
IsWant (error.TooDeep token) = ⊥

-- What a reader must answer where the words before it spell x and end at `rest`: x, and it stops there; or it wants
-- memory.
abbrev pub IsAnswer : {A B : Type 0} → (A → B) → B → List Word → List Word → Result A SyntaxError → Type 0
IsAnswer seen x rest after (Ok y) = (seen y ≡ x) × (after ≡ rest)
IsAnswer seen x rest after (Err error) = IsWant error

-- What a reader must answer where what is before it spells x and nothing stands behind: x; or it wants memory.
abbrev pub IsRead : {A B : Type 0} → (A → B) → B → Result A SyntaxError → Type 0
IsRead seen x (Ok y) = seen y ≡ x
IsRead seen x (Err error) = IsWant error

-- A refusal of what can be read: want of memory, or that a number is passed, which can't be where few are used.
abbrev pub WantsOr : Type 0 → SyntaxError → Type 0
WantsOr Few error.Memory = Unit {0}
WantsOr Few (error.NotProgram token) = ⊥
WantsOr Few (error.TooDeep token) = Few → ⊥

-- What a reader with bounds must answer where the words before it spell x and end at `rest`: x, and it stops there; or it wants
-- memory; or, unless few of what is bounded are used, it refuses as too deep.
abbrev pub IsReading : {A B : Type 0} → Type 0 → (A → B) → B → List Word → List Word → Result A SyntaxError → Type 0
IsReading Few seen x rest after (Ok y) = (seen y ≡ x) × (after ≡ rest)
IsReading Few seen x rest after (Err error) = WantsOr Few error

-- The same where what is before it spells x and nothing stands behind.
abbrev pub IsReadWithin : {A B : Type 0} → Type 0 → (A → B) → B → Result A SyntaxError → Type 0
IsReadWithin Few seen x (Ok y) = seen y ≡ x
IsReadWithin Few seen x (Err error) = WantsOr Few error

-- two refusals of one kind, whatever tokens they name
abbrev pub IsSameRefusal : SyntaxError → SyntaxError → Type 0
IsSameRefusal error.Memory error.Memory = Unit {0}
IsSameRefusal error.Memory (error.NotProgram other) = ⊥
IsSameRefusal error.Memory (error.TooDeep other) = ⊥
IsSameRefusal (error.NotProgram token) error.Memory = ⊥
IsSameRefusal (error.NotProgram token) (error.NotProgram other) = Unit {0}
IsSameRefusal (error.NotProgram token) (error.TooDeep other) = ⊥
IsSameRefusal (error.TooDeep token) error.Memory = ⊥
IsSameRefusal (error.TooDeep token) (error.NotProgram other) = ⊥
IsSameRefusal (error.TooDeep token) (error.TooDeep other) = Unit {0}

-- A refusal names no token past this one.
abbrev pub NamesAtMost : ℕ → SyntaxError → Type 0
NamesAtMost most error.Memory = Unit {0}
NamesAtMost most (error.NotProgram token) = token ≤ most
NamesAtMost most (error.TooDeep token) = token ≤ most

-- None of these signs stands first. A reader that goes on at a sign has read the whole only where none follows.
abbrev pub Ends : List (List ℕ) → List Word → Type 0
Ends [] ws = Unit {0}
Ends (sign ∷ signs) ws = (Begins (IsSign sign) ws → ⊥) × Ends signs ws
