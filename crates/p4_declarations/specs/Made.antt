-- The parts of declarations that one function reads, and the declarations that are made of parts; this project's own.
use Rattle.std.specs.Prelude.{ℕ, List, Option, Result, codes, ◌⊎◌}
use mathlib.Core.Logic.{inl, inr}
use Rattle.elastic_ast.specs.declared.declarations.Field.{Field}
use Rattle.elastic_ast.specs.declared.statements.Amount.{Amount}
use Rattle.elastic_ast.specs.Tree.{Name, PlainDecl}
use Rattle.spelling.specs.Grammar.{Grammar, ◌⨟◌, Named, Separated, Sign}
use Rattle.spelling.specs.Readers.{InCurly, InRound, Many, Reads, ReadsMade, ReadsWithinBefore, itself}
use Rattle.spelling.specs.declared.error.SyntaxError.{SyntaxError}
use Rattle.spelling.specs.declared.reader.Reader.{Reader}
use Rattle.elastic_ast.specs.Seen.{seen_decl}
use Rattle.elastic_ast.specs.declared.declarations.Comp.{Comp}
use Rattle.elastic_ast.specs.declared.declarations.Decl.{Decl}
use Rattle.elastic_ast.specs.declared.declarations.UtilTerm.{UtilTerm}
use Rattle.p4_declarations.specs.GoesOn.{EndsProduct}
use Rattle.p4_declarations.specs.Sums.{SpellsComparisons}
use Rattle.p4_declarations.specs.declared.package.Parts.{Parts}
use Rattle.p4_declarations.specs.Flat.{SpellsDeparserParameters, SpellsEmit, SpellsFlat, SpellsPacketParameters, SpellsPart, SpellsStep, SpellsSteps}

-- 'apply' '{' EMITS '}'
abbrev pub SpellsEmitBlock : ℕ → List Name → Grammar
SpellsEmitBlock depth emits = Named (codes "apply") ⨟ InCurly (Many SpellsEmit) depth emits

-- PARSER ',' CONTROL ',' DEPARSER
abbrev pub SpellsThreeParts : ℕ → Parts → Grammar
SpellsThreeParts depth parts = SpellsPart depth parts.parser ⨟ Sign (codes ",") ⨟ SpellsPart depth parts.control ⨟ Sign (codes ",") ⨟ SpellsPart depth parts.deparser

-- the symbol and the steps of a table
abbrev pub SpellsStepTable : ℕ → Name × List (ℕ × ℕ) → Grammar
SpellsStepTable depth table = SpellsSteps depth table.0 table.1

-- K ':' K (',' K ':' K)*
abbrev pub SpellsStepList : List (ℕ × ℕ) → Grammar
SpellsStepList = Separated (Sign (codes ",")) SpellsStep

-- '{' STEPS '}'
abbrev pub SpellsStepBlock : ℕ → List (ℕ × ℕ) → Grammar
SpellsStepBlock = InCurly (λ _. SpellsStepList)

-- '(' COMPARISONS ')'
abbrev pub SpellsAssumption : ℕ → List Comp → Grammar
SpellsAssumption = InRound (λ _. SpellsComparisons)

-- '(' PARAMETERS ')' of a deparser
abbrev pub SpellsParameterList : ℕ → Unit {0} → Grammar
SpellsParameterList = InRound (λ _ _. SpellsDeparserParameters)

-- a reader of what a packet is called in parameters
abbrev pub ReadsParameters : List ℕ → List ℕ → Reader → Reader → Result (Unit {0}) SyntaxError → Type 0
ReadsParameters packet direction before after result = Reads (λ _. SpellsPacketParameters packet direction) itself before after result

-- the words of one form of declaration
abbrev pub FlatOf : {I : Type 0} → (I → PlainDecl) → ℕ → I → Grammar
FlatOf made depth of = SpellsFlat depth (made of)

-- a reader of one form of declaration
abbrev pub ReadsFlat : {I : Type 0} → (I → PlainDecl) → ℕ → Reader → Reader → Result Decl SyntaxError → Type 0
ReadsFlat made depth before after result = ReadsMade SpellsFlat seen_decl made depth before after result

-- a reader of a term of the utility
abbrev pub ReadsGain : (ℕ → UtilTerm → Grammar) → ℕ → Reader → Reader → Result UtilTerm SyntaxError → Type 0
ReadsGain Of depth before after result = ReadsWithinBefore EndsProduct Of itself depth before after result

abbrev pub a_constant : Name × ℕ × ℕ → PlainDecl
a_constant of = PlainDecl.Const of.0 of.1 of.2

abbrev pub a_header : Name × List Field → PlainDecl
a_header of = PlainDecl.Header of.0 of.1

-- the headers of a packet or the metadata
abbrev pub a_struct : List (Name × Name) ⊎ List Field → PlainDecl
a_struct (inl members) = PlainDecl.Headers members
a_struct (inr fields) = PlainDecl.Meta fields

abbrev pub a_register : Name × ℕ × Amount × Option Name → PlainDecl
a_register of = PlainDecl.Register of.0 of.1 of.2 of.3

abbrev pub a_deparser : Name × List Name → PlainDecl
a_deparser of = PlainDecl.Deparser of.0 of.1

abbrev pub a_package : Parts → PlainDecl
a_package parts = PlainDecl.Main parts.parser parts.control parts.deparser
