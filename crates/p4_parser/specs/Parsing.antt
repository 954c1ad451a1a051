-- What the reader of a whole program owes, this project's own.
use Rattle.std.specs.Prelude.{ℕ, ◌≤◌, List, Result, IfOk, IfErr, codes, drop}
use Rattle.p4_lexer.specs.declared.token.Token.{Token}
use Rattle.elastic_ast.specs.declared.declarations.Program.{Program}
use Rattle.elastic_ast.specs.Seen.{seen_program}
use Rattle.elastic_ast.specs.Tree.{PlainProgram}
use Rattle.spelling.specs.Words.{Word}
use Rattle.spelling.specs.Grammar.{Begins, IsReserved}
use Rattle.spelling.specs.Bounds.{IfTooDeep, IfTooDeepAt, PassedAt}
use Rattle.spelling.specs.Reading.{ahead, IsReadWithin}
use Rattle.spelling.specs.declared.error.SyntaxError.{SyntaxError}
use Rattle.spelling.specs.declared.reader.Reader.{Reader}
use Rattle.p4_parser.specs.Declarations.{SpellsProgram}
use Rattle.p4_parser.specs.Reaching.{ProgramPassed}
use Rattle.p4_parser.specs.Reading.{ProgramHasFew}

-- the words spell what is read, within this depth
abbrev pub SpelledIn : (depth : ℕ) → List Word → Result Program SyntaxError → Type 0
SpelledIn depth ws result = IfOk result (λ program. SpellsProgram depth (seen_program program) ws)

-- each program that the words spell, at any depth, is read, or refused as too deep where it passes one of the two numbers
abbrev pub AnswersProgram : (depth : ℕ) → List Word → Result Program SyntaxError → Type 0
AnswersProgram depth ws result = (more : ℕ) (program : PlainProgram) → SpellsProgram more program ws → IsReadWithin ((more ≤ depth) × ProgramHasFew program) seen_program program result

-- a refusal as too deep comes only where one of the two numbers is passed: between two places, and at the token that it names
abbrev pub PassedBetween : (depth : ℕ) → (before after : Reader) → Result Program SyntaxError → Type 0
PassedBetween depth before after result = IfErr result (IfTooDeep (ProgramPassed depth (ahead before) (ahead after)))

abbrev pub PassedFirst : (depth : ℕ) → List ℕ → List Token → Result Program SyntaxError → Type 0
PassedFirst depth text tokens result = IfErr result (IfTooDeepAt (PassedAt (ProgramPassed depth) text tokens 0))

-- a control stands first that is no deparser
abbrev pub BeginsControl : List Word → Type 0
BeginsControl ws = Begins (IsReserved (codes "control")) ws × Begins (IsReserved (codes "inout")) (drop 3 ws)
