-- What the reader of an expression at a place must answer, this project's own.
use Rattle.std.specs.Prelude.{◌≡◌, ℕ, ◌≤◌, List, drop, Result, Ok, Err}
use Rattle.p4_lexer.specs.declared.token.Token.{Token}
use Rattle.elastic_ast.specs.declared.statements.Expr.{Expr}
use Rattle.elastic_ast.specs.Seen.{seen_expr}
use Rattle.elastic_ast.specs.Tree.{PlainExpr}
use Rattle.spelling.specs.Words.{Word, words}
use Rattle.spelling.specs.Reading.{WantsOr}
use Rattle.spelling.specs.declared.error.SyntaxError.{SyntaxError}
use Rattle.p4_expr.specs.Expressions.{HasFewOperators}

-- Where the tokens from a place on spell an expression at this depth and `rest` follows: the expression, and the place of `rest`;
-- or a refusal for want of memory, or for brackets or operators that are too many.
abbrev pub IsExpr : (most_depth more : ℕ) → PlainExpr → List Word → List ℕ → List Token → Result (Expr × ℕ) SyntaxError → Type 0
IsExpr most_depth more e rest text tokens (Ok r) = (seen_expr r.0 ≡ e) × (words text (drop r.1 tokens) ≡ rest)
IsExpr most_depth more e rest text tokens (Err error) = WantsOr ((more ≤ most_depth) × HasFewOperators e) error
