-- The parts of expressions and statements that have no expression in them, in the manner of the grammar of the P4-16
-- language specification 1.2.3; this project's own.
use Rattle.std.specs.Prelude.{◌≡◌, ℕ, ◌<◌, ◌≤◌, ◌^◌, Bool, true, false, List, length, Option, None, Some, Result, IfOk, IfErr, codes}
use Rattle.p4_lexer.specs.declared.token.Kind.TheVariants as kind
use Rattle.elastic_ast.specs.declared.statements.Amount.{Amount}
use Rattle.elastic_ast.specs.declared.statements.Amount.TheVariants as amount
use Rattle.elastic_ast.specs.declared.statements.Lval.{Lval}
use Rattle.elastic_ast.specs.declared.statements.Lval.TheVariants as lval
use Rattle.elastic_ast.specs.declared.statements.RegRef.{RegRef}
use Rattle.spelling.specs.Words.{Word}
use Rattle.spelling.specs.Bounds.{IfTooDeep, Line, OpensNext, Stops}
use Rattle.spelling.specs.Reading.{ahead, IsReading, MayTake, Takes}
use Rattle.spelling.specs.Readers.{itself}
use Rattle.spelling.specs.declared.error.SyntaxError.{SyntaxError}
use Rattle.spelling.specs.declared.reader.Reader.{Reader}
use Rattle.p4_expr.specs.GoesOn.{EndsIndex}
use Rattle.spelling.specs.Grammar.{Grammar, Empty, One, ◌⨟◌, Where, Sign, Reserved, Named, Num, Bracketed}

abbrev pub IsNumber : Option ℕ → ℕ → Word → Type 0
IsNumber width value word = word.kind ≡ kind.Number width value

-- a width fits its place in the tree
abbrev pub FitsWidth : Option ℕ → Type 0
FitsWidth None = Unit {0}
FitsWidth (Some width) = width < 2 ^ 8

-- V: any number, with a width or without one
abbrev pub SpellsNumber : Option ℕ → ℕ → Grammar
SpellsNumber width value = Where (FitsWidth width × (value < 2 ^ 128)) (One (IsNumber width value))

abbrev pub SpellsAnyNumber : Option ℕ × ℕ → Grammar
SpellsAnyNumber number = SpellsNumber number.0 number.1

-- 'true' | 'false'
abbrev pub SpellsTruth : Bool → Grammar
SpellsTruth true = Reserved (codes "true")
SpellsTruth false = Reserved (codes "false")

-- bits := 'bit' '<' K '>'
abbrev pub SpellsBits : ℕ → Grammar
SpellsBits width = Where (width < 2 ^ 8) (Reserved (codes "bit") ⨟ Sign (codes "<") ⨟ Num width ⨟ Sign (codes ">"))

-- amount := K | N
abbrev pub SpellsAmount : Amount → Grammar
SpellsAmount (amount.Num value) = Where (value < 2 ^ 32) (Num value)
SpellsAmount (amount.Named name) = Named name

-- ['[' N ']']
abbrev pub SpellsIndex : ℕ → Option (List ℕ) → Grammar
SpellsIndex depth None = Empty
SpellsIndex depth (Some index) = Bracketed (codes "[") (codes "]") depth (λ _. Named index)

-- 'hdr' '.' N
abbrev pub SpellsHeader : List ℕ → Grammar
SpellsHeader header = Named (codes "hdr") ⨟ Sign (codes ".") ⨟ Named header

-- '(' ')'
abbrev pub SpellsNoArguments : ℕ → Grammar
SpellsNoArguments depth = Bracketed (codes "(") (codes ")") depth (λ _. Empty)

-- lval := 'hdr' '.' N '.' N | 'meta' '.' N ['[' N ']'] | 'std' '.' N
abbrev pub SpellsLval : ℕ → Lval → Grammar
SpellsLval depth (lval.Header header field) = SpellsHeader header ⨟ Sign (codes ".") ⨟ Named field
SpellsLval depth (lval.Meta name index) = Named (codes "meta") ⨟ Sign (codes ".") ⨟ Named name ⨟ SpellsIndex depth index
SpellsLval depth (lval.Std name) = Named (codes "std") ⨟ Sign (codes ".") ⨟ Named name

abbrev pub a_header_place : List ℕ × List ℕ → Lval
a_header_place of = lval.Header of.0 of.1

abbrev pub a_meta_place : List ℕ × Option (List ℕ) → Lval
a_meta_place of = lval.Meta of.0 of.1

-- reg := N ['[' N ']']
abbrev pub SpellsRegister : ℕ → RegRef → Grammar
SpellsRegister depth register = Named register.name ⨟ SpellsIndex depth register.index

-- 'hdr' '.' N '.' 'isValid' '(' ')'
abbrev pub SpellsIsValid : ℕ → List ℕ → Grammar
SpellsIsValid depth header = SpellsHeader header ⨟ Sign (codes ".") ⨟ Named (codes "isValid") ⨟ SpellsNoArguments depth

-- '[' K ':' K ']', the higher bit first
abbrev pub SpellsBitRange : ℕ → ℕ → ℕ → Grammar
SpellsBitRange depth high low =
    Where ((high < 2 ^ 8) × (low < 2 ^ 8)) (Bracketed (codes "[") (codes "]") depth (λ _. Num high ⨟ Sign (codes ":") ⨟ Num low))

-- the two bits together
abbrev pub SpellsSlice : ℕ → ℕ × ℕ → Grammar
SpellsSlice depth range = SpellsBitRange depth range.0 range.1

-- '(' bits ')'
abbrev pub SpellsCast : ℕ → ℕ → Grammar
SpellsCast depth width = Bracketed (codes "(") (codes ")") depth (λ _. SpellsBits width)

-- A reader of what an index may end, of all things or of those that are made of some: it reads what is spelled where no index goes
-- on behind it, and anywhere no less than is spelled.
pub record ReadsToIndex {A I : Type 0} (Taken : Grammar → List Word → List Word → Type 0) (Of : ℕ → A → Grammar) (made : I → A) (depth : ℕ) (before after : Reader) (result : Result A SyntaxError) : Type 0 where
  pub taken : IfOk result (λ read. Taken (Of depth read) (ahead before) (ahead after))
  pub only : (more : ℕ) (of : I) (rest : List Word) → MayTake (Of more (made of)) (ahead before) rest → EndsIndex rest → IsReading (more ≤ depth) itself (made of) rest (ahead after) result
  pub longest : IfOk result (λ _. (more : ℕ) (of : I) (rest : List Word) → MayTake (Of more (made of)) (ahead before) rest → length (ahead after) ≤ length rest)
  pub deep : IfErr result (IfTooDeep (Stops (Line depth) OpensNext (ahead before) (ahead after)))

abbrev pub ReadsIndex : ℕ → Reader → Reader → Result (Option (List ℕ)) SyntaxError → Type 0
ReadsIndex depth before after result = ReadsToIndex MayTake SpellsIndex itself depth before after result

-- a reader of one form of place
abbrev pub ReadsPlace : {I : Type 0} → (I → Lval) → ℕ → Reader → Reader → Result Lval SyntaxError → Type 0
ReadsPlace made depth before after result = ReadsToIndex Takes SpellsLval made depth before after result

-- '(' ')' stands for nothing
abbrev pub SpellsCallEnd : ℕ → Unit {0} → Grammar
SpellsCallEnd depth none = SpellsNoArguments depth

-- an amount and a sign behind it
abbrev pub SpellsAmountBefore : List ℕ → Amount → Grammar
SpellsAmountBefore sign amount = SpellsAmount amount ⨟ Sign sign

-- ',' MODULUS ')' of a hash
abbrev pub SpellsHashEnd : Amount → Grammar
SpellsHashEnd modulus = Sign (codes ",") ⨟ SpellsAmountBefore (codes ")") modulus
