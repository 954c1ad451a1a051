-- The typed program that a text spells: by its tokens, within the numbers of brackets and operators that the language
-- allows. Which texts are taken as sources, and why others aren't; this project's own.
use Rattle.std.specs.Prelude.{◌≡◌, ◌<◌, ◌≤◌, ◌⊎◌, ℕ, List, length, false, Result, Ok, Err}
use Rattle.elastic_ast.specs.declared.declarations.Decl.{Decl}
use Rattle.elastic_ast.specs.Seen.{seen_decls}
use Rattle.elastic_ast.specs.Tree.{PlainProgram}
use Rattle.elastic_ast.specs.Typing.Typed.{Typed}
use Rattle.p4_lexer.specs.declared.token.LexError.TheVariants as lexed
use Rattle.p4_lexer.specs.declared.token.Token.{Token}
use Rattle.p4_lexer.specs.BadPlaces.{IsBad}
use Rattle.p4_lexer.specs.Tokens.{TokensOf}
use Rattle.p4_parser.specs.Declarations.{SpellsProgram}
use Rattle.p4_parser.specs.ProgramOf.{IsProgramOf, most_brackets}
use Rattle.p4_parser.specs.Reaching.{ProgramPassed}
use Rattle.spelling.specs.Bounds.{PassedAt}
use Rattle.spelling.specs.Words.{words}
use Rattle.width_check.specs.Broken.{BreaksFirst}
use Rattle.p4all_top.specs.Limits.{IsTaken, most_source}
use Rattle.p4all_top.specs.declared.parsing.Refusal.{Refusal}
use Rattle.p4all_top.specs.declared.parsing.Refusal.TheVariants as refusal

-- the text spells this program, and it is typed
pub record IsProgram (text : List ℕ) (decls : PlainProgram) : Type 0 where
  pub spelled : IsProgramOf text decls
  pub typed : Typed false decls

-- the text spells this typed program, and no other
pub record IsOnlyProgram (text : List ℕ) (decls : PlainProgram) : Type 0 where
  pub program : IsProgram text decls
  pub only : (other : PlainProgram) → IsProgram text other → other ≡ decls

-- the text spells no typed program
abbrev pub HasNoProgram : List ℕ → Type 0
HasNoProgram text = (decls : PlainProgram) → IsProgram text decls → ⊥

-- the text has tokens, this one or the end of them among them, and they spell no program, whatever the numbers of brackets
-- and operators are
pub record SpellsNothing (text : List ℕ) (token : ℕ) : Type 0 where
  pub tokens : List Token
  pub tokens_are : TokensOf text tokens
  pub within : token ≤ length tokens
  pub none : (depth : ℕ) (program : PlainProgram) → SpellsProgram depth program (words text tokens) → ⊥

-- the text has tokens, this one among them, and it passes the number of brackets or that of operators that the language allows: so they
-- spell no program within the two
pub record SpellsTooDeep (text : List ℕ) (token : ℕ) : Type 0 where
  pub tokens : List Token
  pub tokens_are : TokensOf text tokens
  pub passed : PassedAt (ProgramPassed most_brackets) text tokens 0 token
  pub none : (program : PlainProgram) → IsProgramOf text program → ⊥

-- the text spells one program and no other, of which this holds
pub record SpellsOne (Holds : PlainProgram → Type 0) (text : List ℕ) : Type 0 where
  pub program : PlainProgram
  pub spelled : IsProgramOf text program
  pub only : (other : PlainProgram) → IsProgramOf text other → other ≡ program
  pub holds : Holds program

-- why a text spells no typed program
abbrev pub IsRefusedBy : List ℕ → Refusal → Type 0
IsRefusedBy text (refusal.Byte at) = IsBad text (lexed.BadByte at)
IsRefusedBy text (refusal.Number at) = IsBad text (lexed.BadNumber at)
IsRefusedBy text (refusal.Comment at) = IsBad text (lexed.OpenComment at)
IsRefusedBy text (refusal.Syntax token) = SpellsNothing text token
IsRefusedBy text (refusal.Deep token) = SpellsTooDeep text token
IsRefusedBy text (refusal.Rule rule decl) = SpellsOne (λ program. BreaksFirst false program rule decl) text
IsRefusedBy text _ = ⊥

-- what is found in a text: its one typed program, or why it spells none
abbrev pub IsProgramFound : List ℕ → Result (List Decl) Refusal → Type 0
IsProgramFound text (Ok decls) = IsOnlyProgram text (seen_decls decls)
IsProgramFound text (Err cause) = IsRefusedBy text cause

-- a source is taken: it is no longer than `most_source` bytes, and spells this program
abbrev pub IsSource : List ℕ → PlainProgram → Type 0
IsSource = IsTaken most_source IsOnlyProgram

-- a source isn't taken: it is too long, or spells no typed program
abbrev pub IsNoSource : List ℕ → Type 0
IsNoSource text = (most_source < length text) ⊎ HasNoProgram text

-- why a source isn't taken
abbrev pub IsSourceRefused : List ℕ → Refusal → Type 0
IsSourceRefused text refusal.LongSource = most_source < length text
IsSourceRefused text cause = (length text ≤ most_source) × IsRefusedBy text cause

-- what is found in a source: its program, or why it isn't taken
abbrev pub IsSourceFound : List ℕ → Result (List Decl) Refusal → Type 0
IsSourceFound text (Ok decls) = IsSource text (seen_decls decls)
IsSourceFound text (Err cause) = IsSourceRefused text cause
