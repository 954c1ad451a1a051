-- The refusals that the errors of the lexer, the parser, the checker and the reader of targets stand for; want of memory is none.
-- This project's own.
use Rattle.std.specs.Prelude.{Option, Some, None}
use Rattle.p4_lexer.specs.declared.token.LexError.{LexError}
use Rattle.p4_lexer.specs.declared.token.LexError.TheVariants as lexed
use Rattle.spelling.specs.declared.error.SyntaxError.{SyntaxError}
use Rattle.spelling.specs.declared.error.SyntaxError.TheVariants as parsed
use Rattle.width_check.specs.declared.checking.CheckError.{CheckError}
use Rattle.width_check.specs.declared.checking.CheckError.TheVariants as checked
use Rattle.target_desc.specs.declared.target.TargetError.{TargetError}
use Rattle.target_desc.specs.declared.target.TargetError.TheVariants as described
use Rattle.p4all_top.specs.declared.parsing.Refusal.{Refusal}
use Rattle.p4all_top.specs.declared.parsing.Refusal.TheVariants as refusal

abbrev pub lexer_refusal : LexError → Option Refusal
lexer_refusal (lexed.BadByte at) = Some (refusal.Byte at)
lexer_refusal (lexed.BadNumber at) = Some (refusal.Number at)
lexer_refusal (lexed.OpenComment at) = Some (refusal.Comment at)
lexer_refusal lexed.Memory = None

abbrev pub parser_refusal : SyntaxError → Option Refusal
parser_refusal (parsed.NotProgram token) = Some (refusal.Syntax token)
parser_refusal (parsed.TooDeep token) = Some (refusal.Deep token)
parser_refusal parsed.Memory = None

abbrev pub check_refusal : CheckError → Option Refusal
check_refusal (checked.Broken broken) = Some (refusal.Rule broken.rule broken.decl)
check_refusal checked.Memory = None

abbrev pub target_refusal : TargetError → Option Refusal
target_refusal described.NotToml = Some refusal.Toml
target_refusal described.UnknownKey = Some refusal.UnknownKey
target_refusal (described.MissingKey key) = Some (refusal.MissingKey key)
target_refusal (described.OutOfRange key) = Some (refusal.OutOfRange key)
target_refusal described.Memory = None
