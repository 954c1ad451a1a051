-- The program of a text: its tokens spell it, with at most 80 brackets open at one token and at most 64 operators in an
-- expression; this project's own.
use Rattle.std.specs.Prelude.{ℕ, List, All}
use Rattle.p4_lexer.specs.declared.token.Token.{Token}
use Rattle.p4_lexer.specs.Tokens.{TokensOf}
use Rattle.elastic_ast.specs.Tree.{PlainProgram}
use Rattle.spelling.specs.Words.{words}
use Rattle.p4_expr.specs.Expressions.{HasFewOperators}
use Rattle.p4_parser.specs.Declarations.{SpellsProgram}
use Rattle.p4_parser.specs.ExpressionsIn.{expressions_in}

abbrev pub most_brackets : ℕ
most_brackets = 80

pub record IsProgramOf (text : List ℕ) (program : PlainProgram) : Type 0 where
  pub tokens : List Token
  pub tokens_are : TokensOf text tokens
  pub spelled : SpellsProgram most_brackets program (words text tokens)
  pub few : All HasFewOperators (expressions_in program)
