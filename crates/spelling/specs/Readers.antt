-- What a reader owes, in one fact, this project's own.
use Rattle.std.specs.Prelude.{drop, ◌≡◌, ℕ, ◌+◌, ◌<◌, ◌≤◌, List, [], ◌∷◌, ◌++◌, length, Result, Ok, Err, IfOk, IfErr, codes}
use denote.Ref.{MutBor}
use Rattle.p4_lexer.specs.declared.token.Kind.TheVariants as kind
use Rattle.p4_lexer.specs.declared.token.Token.{Token}
use Rattle.spelling.specs.Words.{Word, word_of, words}
use Rattle.spelling.specs.Grammar.{Grammar, Begins, Bracketed, Each, IsNum, IsReserved, IsSign, Sign}
use Rattle.spelling.specs.Reading.{ahead, token_place, Takes, MayTake, MayRefuse, MayNotOpen, IsWant, IsAnswer, IsReading}
use Rattle.spelling.specs.Bounds.{IfTooDeep, IsNeverDeep, Line, Opens, OpensNext, Stops}
use Rattle.spelling.specs.declared.brackets.Brackets.{Brackets}
use Rattle.spelling.specs.declared.brackets.Brackets.TheVariants as brackets
use Rattle.spelling.specs.declared.error.SyntaxError.{SyntaxError}
use Rattle.spelling.specs.declared.parts.End.{End}
use Rattle.spelling.specs.declared.parts.End.TheVariants as end
use Rattle.spelling.specs.declared.reader.Reader.{Reader}

-- a grammar spells what stands between two places of a reader
abbrev pub TakesOver : Grammar → Reader → Reader → Type 0
TakesOver Of before after = Takes Of (ahead before) (ahead after)

-- a reader of a word refuses where another stands
abbrev pub RefusesWord : {A : Type 0} → (Word → Type 0) → Reader → Result A SyntaxError → Type 0
RefusesWord IsThis before result = IfErr result (MayRefuse (Begins IsThis (ahead before)) (token_place before))

abbrev pub RefusesNumber : {A : Type 0} → ℕ → Reader → Result A SyntaxError → Type 0
RefusesNumber most before result = IfErr result (MayRefuse ((value : ℕ) × (value ≤ most) × Begins (IsNum value) (ahead before)) (token_place before))

abbrev pub RefusesInclude : {A : Type 0} → Reader → Result A SyntaxError → Type 0
RefusesInclude before result = IfErr result (MayRefuse ((file : ℕ) × Begins (λ word. word.kind ≡ kind.Include file) (ahead before)) (token_place before))

-- and one of an opening bracket where none may be open
abbrev pub RefusesBracket : {A : Type 0} → List ℕ → ℕ → Reader → Result A SyntaxError → Type 0
RefusesBracket bracket depth before result = IfErr result (MayNotOpen (Begins (IsSign bracket) (ahead before)) depth (token_place before))

-- no word is ahead, or the token that stands next is the first
abbrev pub AtEnd : Reader → Type 0
AtEnd reader = ahead reader ≡ []

abbrev pub NextIs : Reader → Token → Type 0
NextIs reader token = ahead reader ≡ word_of reader.text.now token ∷ words reader.text.now (drop (reader.next + 1) reader.tokens.now)

-- A reader of what a grammar spells, which opens no bracket that a depth could forbid.
pub record Reads {A B : Type 0} (Of : B → Grammar) (seen : A → B) (before after : Reader) (result : Result A SyntaxError) : Type 0 where
  pub taken : IfOk result (λ read. Takes (Of (seen read)) (ahead before) (ahead after))
  pub only : (x : B) (rest : List Word) → MayTake (Of x) (ahead before) rest → IsAnswer seen x rest (ahead after) result
  pub shallow : IfErr result IsNeverDeep

-- A reader of what a grammar spells within a depth. What it took is spelled at that depth; whatever the depth at which the
-- words spell a thing, it reads that thing, or refuses it as too deep where its own depth is less; and where it does, it
-- stays before a bracket behind as many as the depth.
pub record ReadsWithin {A B : Type 0} (Of : ℕ → B → Grammar) (seen : A → B) (depth : ℕ) (before after : Reader) (result : Result A SyntaxError) : Type 0 where
  pub taken : IfOk result (λ read. Takes (Of depth (seen read)) (ahead before) (ahead after))
  pub only : (more : ℕ) (x : B) (rest : List Word) → MayTake (Of more x) (ahead before) rest → IsReading (more ≤ depth) seen x rest (ahead after) result
  pub deep : IfErr result (IfTooDeep (Stops (Opens depth) OpensNext (ahead before) (ahead after)))

-- The same of a thing that is made of some others, and of no other thing that the grammar spells.
pub record ReadsMade {A B I : Type 0} (Of : ℕ → B → Grammar) (seen : A → B) (made : I → B) (depth : ℕ) (before after : Reader) (result : Result A SyntaxError) : Type 0 where
  pub taken : IfOk result (λ read. Takes (Of depth (seen read)) (ahead before) (ahead after))
  pub only : (more : ℕ) (of : I) (rest : List Word) → MayTake (Of more (made of)) (ahead before) rest → IsReading (more ≤ depth) seen (made of) rest (ahead after) result
  pub deep : IfErr result (IfTooDeep (Stops (Opens depth) OpensNext (ahead before) (ahead after)))

-- The same of perhaps no words, where what follows them begins so.
pub record ReadsUpTo {A B : Type 0} (Follows : Grammar) (Of : ℕ → B → Grammar) (seen : A → B) (depth : ℕ) (before after : Reader) (result : Result A SyntaxError) : Type 0 where
  pub taken : IfOk result (λ read. MayTake (Of depth (seen read)) (ahead before) (ahead after))
  pub only : (more : ℕ) (x : B) (rest : List Word) → MayTake (Of more x) (ahead before) rest → Follows rest → IsReading (more ≤ depth) seen x rest (ahead after) result
  pub deep : IfErr result (IfTooDeep (Stops (Opens depth) OpensNext (ahead before) (ahead after)))

-- what is read stands for itself
abbrev pub itself : {A : Type 0} → A → A
itself x = x

-- the closing bracket of a block stands first
abbrev pub ClosesNext : Grammar
ClosesNext = Begins (IsSign (codes "}"))

-- the closing bracket of a list stands first
abbrev pub EndsRound : Grammar
EndsRound = Begins (IsSign (codes ")"))

-- a word that is this end of a list of parts
abbrev pub IsEndWord : End → Word → Type 0
IsEndWord (end.Sign sign) = IsSign sign.now
IsEndWord (end.Reserved text) = IsReserved text.now

-- A reader of perhaps no words, which are followed by others that begin so; it opens no bracket that a depth could forbid.
pub record ReadsWordsUpTo {A B : Type 0} (Follows : Grammar) (Of : B → Grammar) (seen : A → B) (before after : Reader) (result : Result A SyntaxError) : Type 0 where
  pub taken : IfOk result (λ read. MayTake (Of (seen read)) (ahead before) (ahead after))
  pub only : (x : B) (rest : List Word) → MayTake (Of x) (ahead before) rest → Follows rest → IsAnswer seen x rest (ahead after) result
  pub shallow : IfErr result IsNeverDeep

-- What comes of reading a part between brackets: the opening sign is refused, or the part, or the closing sign, or each is read.
pub data InBrackets {A : Type 0} (opening closing : List ℕ) (depth : ℕ) (Calls : MutBor Reader → ℕ → Result A SyntaxError → MutBor Reader → Type 0) (before after : Reader) : Result A SyntaxError → Type 0 where
  Unopened : (e : SyntaxError) → MayNotOpen (Begins (IsSign opening) (ahead before)) depth (token_place before) e → after ≡ before → InBrackets opening closing depth Calls before after (Err e)
  Broken : (inner : ℕ) (old new : MutBor Reader) (e : SyntaxError) → depth ≡ inner + 1 → Takes (Sign opening) (ahead before) (ahead old.now) → Calls old inner (Err e) new → after ≡ new.now → InBrackets opening closing depth Calls before after (Err e)
  Unclosed : (inner : ℕ) (old new : MutBor Reader) (y : A) (e : SyntaxError) → depth ≡ inner + 1 → Takes (Sign opening) (ahead before) (ahead old.now) → Calls old inner (Ok y) new → MayRefuse (Begins (IsSign closing) (ahead new.now)) (token_place new.now) e → after ≡ new.now → InBrackets opening closing depth Calls before after (Err e)
  Closed : (inner : ℕ) (old new : MutBor Reader) (y : A) → depth ≡ inner + 1 → Takes (Sign opening) (ahead before) (ahead old.now) → Calls old inner (Ok y) new → Takes (Sign closing) (ahead new.now) (ahead after) → InBrackets opening closing depth Calls before after (Ok y)

-- how many brackets may be open from these on, and what comes of reading a part between them
abbrev pub depth_of : Brackets → ℕ
depth_of (brackets.Round depth) = depth
depth_of (brackets.Square depth) = depth
depth_of (brackets.Curly depth) = depth

abbrev pub Enclosed : {A : Type 0} → Brackets → (MutBor Reader → ℕ → Result A SyntaxError → MutBor Reader → Type 0) → Reader → Reader → Result A SyntaxError → Type 0
Enclosed (brackets.Round depth) = InBrackets (codes "(") (codes ")") depth
Enclosed (brackets.Square depth) = InBrackets (codes "[") (codes "]") depth
Enclosed (brackets.Curly depth) = InBrackets (codes "{") (codes "}") depth

-- each call that reads a thing takes a word
pub record GoesOn {A : Type 0} (Calls : MutBor Reader → Result A SyntaxError → MutBor Reader → Type 0) : Type 0 where
  pub goes : (old new : MutBor Reader) (y : A) → Calls old (Ok y) new → length (ahead new.now) < length (ahead old.now)

-- many things up to the closing bracket of the block
abbrev pub ReadsInBlock : {B : Type 0} → (ℕ → B → Grammar) → ℕ → Reader → Reader → Result B SyntaxError → Type 0
ReadsInBlock Of depth before after result = ReadsUpTo ClosesNext Of itself depth before after result

-- what calls of a part's reader read one after the other, none where it stops
pub data OneByOne {A : Type 0} (Stop : Grammar) (Calls : MutBor Reader → Result A SyntaxError → MutBor Reader → Type 0) (before : Reader) : List A → Reader → Type 0 where
  NoneYet : OneByOne Stop Calls before [] before
  OneMore : (xs : List A) (old new : MutBor Reader) (x : A) → OneByOne Stop Calls before xs old.now → (Stop (ahead old.now) → ⊥) → Calls old (Ok x) new → OneByOne Stop Calls before (xs ++ x ∷ []) new.now

-- What comes of reading one part after the other up to where it stops: it stops there, or a part is refused before, or memory is wanted.
pub data Until {A : Type 0} (Stop : Grammar) (Calls : MutBor Reader → Result A SyntaxError → MutBor Reader → Type 0) (before after : Reader) : Result (List A) SyntaxError → Type 0 where
  Ended : (xs : List A) → OneByOne Stop Calls before xs after → Stop (ahead after) → Until Stop Calls before after (Ok xs)
  Refused : (xs : List A) (old new : MutBor Reader) (e : SyntaxError) → OneByOne Stop Calls before xs old.now → (Stop (ahead old.now) → ⊥) → Calls old (Err e) new → after ≡ new.now → Until Stop Calls before after (Err e)
  Wanting : (e : SyntaxError) → IsWant e → Until Stop Calls before after (Err e)

-- a thing in brackets
abbrev pub InRound : {B : Type 0} → (ℕ → B → Grammar) → ℕ → B → Grammar
InRound Of depth x = Bracketed (codes "(") (codes ")") depth (λ inner. Of inner x)

abbrev pub InSquare : {B : Type 0} → (ℕ → B → Grammar) → ℕ → B → Grammar
InSquare Of depth x = Bracketed (codes "[") (codes "]") depth (λ inner. Of inner x)

abbrev pub InCurly : {B : Type 0} → (ℕ → B → Grammar) → ℕ → B → Grammar
InCurly Of depth x = Bracketed (codes "{") (codes "}") depth (λ inner. Of inner x)

-- many of one thing
abbrev pub Many : {B : Type 0} → (ℕ → B → Grammar) → ℕ → List B → Grammar
Many Of depth xs = Each (Of depth) xs

-- A reader with bounds: of what it read few of what is bounded is used, it reads each thing of which few is used, and where it refuses as too
-- deep a bound is passed.
pub record ReadsFew {A B : Type 0} (Of : ℕ → B → Grammar) (seen : A → B) (Few : B → Type 0) (Passed : List Word → List Word → Type 0) (depth : ℕ) (before after : Reader) (result : Result A SyntaxError) : Type 0 where
  pub taken : IfOk result (λ read. Takes (Of depth (seen read)) (ahead before) (ahead after))
  pub few : IfOk result (λ read. Few (seen read))
  pub only : (more : ℕ) (x : B) (rest : List Word) → MayTake (Of more x) (ahead before) rest → IsReading ((more ≤ depth) × Few x) seen x rest (ahead after) result
  pub deep : IfErr result (IfTooDeep (Passed (ahead before) (ahead after)))

-- The same of a thing that is made of some others.
pub record ReadsFewMade {A B I : Type 0} (Of : ℕ → B → Grammar) (seen : A → B) (made : I → B) (Few : B → Type 0) (Passed : List Word → List Word → Type 0) (depth : ℕ) (before after : Reader) (result : Result A SyntaxError) : Type 0 where
  pub taken : IfOk result (λ read. Takes (Of depth (seen read)) (ahead before) (ahead after))
  pub few : IfOk result (λ read. Few (seen read))
  pub only : (more : ℕ) (of : I) (rest : List Word) → MayTake (Of more (made of)) (ahead before) rest → IsReading ((more ≤ depth) × Few (made of)) seen (made of) rest (ahead after) result
  pub deep : IfErr result (IfTooDeep (Passed (ahead before) (ahead after)))

-- A reader with bounds of perhaps no words, where what follows them is so.
pub record ReadsFewUpTo {A B : Type 0} (Follows : Grammar) (Of : ℕ → B → Grammar) (seen : A → B) (Few : B → Type 0) (Passed : List Word → List Word → Type 0) (depth : ℕ) (before after : Reader) (result : Result A SyntaxError) : Type 0 where
  pub taken : IfOk result (λ read. MayTake (Of depth (seen read)) (ahead before) (ahead after))
  pub few : IfOk result (λ read. Few (seen read))
  pub only : (more : ℕ) (x : B) (rest : List Word) → MayTake (Of more x) (ahead before) rest → Follows rest → IsReading ((more ≤ depth) × Few x) seen x rest (ahead after) result
  pub deep : IfErr result (IfTooDeep (Passed (ahead before) (ahead after)))

-- What comes of reading a part and a sign behind it: the part is refused, or the sign, or both are read.
pub data ThenSign {A : Type 0} (sign : List ℕ) (Calls : MutBor Reader → Result A SyntaxError → MutBor Reader → Type 0) (before after : Reader) : Result A SyntaxError → Type 0 where
  NoPart : (old new : MutBor Reader) (e : SyntaxError) → old.now ≡ before → Calls old (Err e) new → after ≡ new.now → ThenSign sign Calls before after (Err e)
  NoSign : (old new : MutBor Reader) (y : A) (e : SyntaxError) → old.now ≡ before → Calls old (Ok y) new → MayRefuse (Begins (IsSign sign) (ahead new.now)) (token_place new.now) e → after ≡ new.now → ThenSign sign Calls before after (Err e)
  Both : (old new : MutBor Reader) (y : A) → old.now ≡ before → Calls old (Ok y) new → Takes (Sign sign) (ahead new.now) (ahead after) → ThenSign sign Calls before after (Ok y)

-- A reader of what a grammar spells, where what follows it is so.
pub record ReadsBefore {A B : Type 0} (Follows : Grammar) (Of : B → Grammar) (seen : A → B) (before after : Reader) (result : Result A SyntaxError) : Type 0 where
  pub taken : IfOk result (λ read. Takes (Of (seen read)) (ahead before) (ahead after))
  pub only : (x : B) (rest : List Word) → MayTake (Of x) (ahead before) rest → Follows rest → IsAnswer seen x rest (ahead after) result
  pub shallow : IfErr result IsNeverDeep

-- The same within a depth.
pub record ReadsWithinBefore {A B : Type 0} (Follows : Grammar) (Of : ℕ → B → Grammar) (seen : A → B) (depth : ℕ) (before after : Reader) (result : Result A SyntaxError) : Type 0 where
  pub taken : IfOk result (λ read. Takes (Of depth (seen read)) (ahead before) (ahead after))
  pub only : (more : ℕ) (x : B) (rest : List Word) → MayTake (Of more x) (ahead before) rest → Follows rest → IsReading (more ≤ depth) seen x rest (ahead after) result
  pub deep : IfErr result (IfTooDeep (Stops (Opens depth) OpensNext (ahead before) (ahead after)))

-- A reader within a depth, of words that stand within one statement.
pub record ReadsLine {A B : Type 0} (Of : ℕ → B → Grammar) (seen : A → B) (depth : ℕ) (before after : Reader) (result : Result A SyntaxError) : Type 0 where
  pub taken : IfOk result (λ read. Takes (Of depth (seen read)) (ahead before) (ahead after))
  pub only : (more : ℕ) (x : B) (rest : List Word) → MayTake (Of more x) (ahead before) rest → IsReading (more ≤ depth) seen x rest (ahead after) result
  pub deep : IfErr result (IfTooDeep (Stops (Line depth) OpensNext (ahead before) (ahead after)))

-- The same where what follows is so.
pub record ReadsLineBefore {A B : Type 0} (Follows : Grammar) (Of : ℕ → B → Grammar) (seen : A → B) (depth : ℕ) (before after : Reader) (result : Result A SyntaxError) : Type 0 where
  pub taken : IfOk result (λ read. Takes (Of depth (seen read)) (ahead before) (ahead after))
  pub only : (more : ℕ) (x : B) (rest : List Word) → MayTake (Of more x) (ahead before) rest → Follows rest → IsReading (more ≤ depth) seen x rest (ahead after) result
  pub deep : IfErr result (IfTooDeep (Stops (Line depth) OpensNext (ahead before) (ahead after)))

-- The same of perhaps no words.
pub record ReadsLineUpTo {A B : Type 0} (Follows : Grammar) (Of : ℕ → B → Grammar) (seen : A → B) (depth : ℕ) (before after : Reader) (result : Result A SyntaxError) : Type 0 where
  pub taken : IfOk result (λ read. MayTake (Of depth (seen read)) (ahead before) (ahead after))
  pub only : (more : ℕ) (x : B) (rest : List Word) → MayTake (Of more x) (ahead before) rest → Follows rest → IsReading (more ≤ depth) seen x rest (ahead after) result
  pub deep : IfErr result (IfTooDeep (Stops (Line depth) OpensNext (ahead before) (ahead after)))

-- The same of a thing that is made of some others.
pub record ReadsLineMade {A B I : Type 0} (Follows : Grammar) (Of : ℕ → B → Grammar) (seen : A → B) (made : I → B) (depth : ℕ) (before after : Reader) (result : Result A SyntaxError) : Type 0 where
  pub taken : IfOk result (λ read. Takes (Of depth (seen read)) (ahead before) (ahead after))
  pub only : (more : ℕ) (of : I) (rest : List Word) → MayTake (Of more (made of)) (ahead before) rest → Follows rest → IsReading (more ≤ depth) seen (made of) rest (ahead after) result
  pub deep : IfErr result (IfTooDeep (Stops (Line depth) OpensNext (ahead before) (ahead after)))

-- A reader with bounds, where what follows is so.
pub record ReadsFewBefore {A B : Type 0} (Follows : Grammar) (Of : ℕ → B → Grammar) (seen : A → B) (Few : B → Type 0) (Passed : List Word → List Word → Type 0) (depth : ℕ) (before after : Reader) (result : Result A SyntaxError) : Type 0 where
  pub taken : IfOk result (λ read. Takes (Of depth (seen read)) (ahead before) (ahead after))
  pub few : IfOk result (λ read. Few (seen read))
  pub only : (more : ℕ) (x : B) (rest : List Word) → MayTake (Of more x) (ahead before) rest → Follows rest → IsReading ((more ≤ depth) × Few x) seen x rest (ahead after) result
  pub deep : IfErr result (IfTooDeep (Passed (ahead before) (ahead after)))

-- what calls of a part's reader read one after the other, with a sign before each but the first
pub data WithSigns {A : Type 0} (sign : List ℕ) (Calls : MutBor Reader → Result A SyntaxError → MutBor Reader → Type 0) (before : Reader) : List A → Reader → Type 0 where
  JustOne : (old new : MutBor Reader) (x : A) → old.now ≡ before → Calls old (Ok x) new → WithSigns sign Calls before (x ∷ []) new.now
  OneBehind : (xs : List A) (mid : Reader) (old new : MutBor Reader) (x : A) → WithSigns sign Calls before xs mid → Takes (Sign sign) (ahead mid) (ahead old.now) → Calls old (Ok x) new → WithSigns sign Calls before (xs ++ x ∷ []) new.now

-- What comes of reading a part, and one more behind each of a sign: no sign follows, or a part is refused, or memory is wanted.
pub data InSeries {A : Type 0} (sign : List ℕ) (Calls : MutBor Reader → Result A SyntaxError → MutBor Reader → Type 0) (before after : Reader) : Result (List A) SyntaxError → Type 0 where
  Whole : (xs : List A) (mid : Reader) → WithSigns sign Calls before xs mid → (Begins (IsSign sign) (ahead mid) → ⊥) → after ≡ mid → InSeries sign Calls before after (Ok xs)
  RefusedFirst : (old new : MutBor Reader) (e : SyntaxError) → old.now ≡ before → Calls old (Err e) new → after ≡ new.now → InSeries sign Calls before after (Err e)
  RefusedNext : (xs : List A) (mid : Reader) (old new : MutBor Reader) (e : SyntaxError) → WithSigns sign Calls before xs mid → Takes (Sign sign) (ahead mid) (ahead old.now) → Calls old (Err e) new → after ≡ new.now → InSeries sign Calls before after (Err e)
  WantingMemory : (e : SyntaxError) → IsWant e → InSeries sign Calls before after (Err e)

-- What comes of reading parts with commas between them, perhaps none, up to a closing bracket.
pub data InCommas {A : Type 0} (Calls : MutBor Reader → Result A SyntaxError → MutBor Reader → Type 0) (before after : Reader) : Result (List A) SyntaxError → Type 0 where
  NoParts : EndsRound (ahead before) → after ≡ before → InCommas Calls before after (Ok [])
  SomeParts : (result : Result (List A) SyntaxError) → (EndsRound (ahead before) → ⊥) → InSeries (codes ",") Calls before after result → InCommas Calls before after result
