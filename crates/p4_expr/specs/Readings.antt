-- What the readers of expressions answer, each fact by its name; this project's own.
use Rattle.std.specs.Prelude.{◌≡◌, ℕ, ◌+◌, ◌≤◌, List, Option, drop, length, Result, IfOk, IfErr, IfSome, codes}
use Rattle.p4_lexer.specs.declared.token.Kind.TheVariants as kind
use Rattle.p4_lexer.specs.declared.token.Token.{Token}
use Rattle.elastic_ast.specs.declared.statements.Expr.{Expr}
use Rattle.elastic_ast.specs.Seen.{seen_expr}
use Rattle.elastic_ast.specs.Tree.{PlainExpr}
use Rattle.spelling.specs.Words.{Word, words}
use Rattle.spelling.specs.Grammar.{Grammar, Begins, IsNamed}
use Rattle.spelling.specs.Reading.{ahead, Ends, IsReading, MayTake, Takes}
use Rattle.spelling.specs.Bounds.{IfTooDeep, IfTooDeepAt, PassedAt}
use Rattle.spelling.specs.declared.error.SyntaxError.{SyntaxError}
use Rattle.spelling.specs.declared.reader.Reader.{Reader}
use Rattle.p4_expr.specs.ExprAt.{IsExpr}
use Rattle.p4_expr.specs.Expressions.{HasFewOperators, SpellsExpr, most_operators}
use Rattle.p4_expr.specs.GoesOn.{expression_signs}
use Rattle.p4_expr.specs.Operators.{operators_in, weakest}
use Rattle.p4_expr.specs.Passing.{ExprPassed}
use Rattle.p4_expr.specs.Standing.{EndsLevel, GoesNoFurther, Passes, StandsTest}

-- an expression and how many more operators may follow it
abbrev pub Counted : Type 0
Counted = Result (Expr × ℕ) SyntaxError

-- a grammar spells what was read
abbrev pub TakesExpr : (PlainExpr → Grammar) → Reader → Reader → Counted → Type 0
TakesExpr Of before after result = IfOk result (λ r. Takes (Of (seen_expr r.0)) (ahead before) (ahead after))

-- the operators of what was read are counted
abbrev pub CountsOperators : ℕ → Counted → Type 0
CountsOperators left result = IfOk result (λ r. left ≡ operators_in (seen_expr r.0) + r.1)

-- the answer where the words spell an expression
abbrev pub IsCountedRead : (depth left more : ℕ) → PlainExpr → List Word → Reader → Counted → Type 0
IsCountedRead depth left more e rest after result = IsReading ((more ≤ depth) × (operators_in e ≤ left)) (λ r. seen_expr r.0) e rest (ahead after) result

-- what is read is at least as long as every front that is spelled
abbrev pub ReadsLongest : {A : Type 0} → (ℕ → PlainExpr → Grammar) → Reader → Reader → Result A SyntaxError → Type 0
ReadsLongest Of before after result = IfOk result (λ _. (more : ℕ) (e : PlainExpr) (rest : List Word) → MayTake (Of more e) (ahead before) rest → length (ahead after) ≤ length rest)

abbrev pub BeginsName : Grammar
BeginsName = Begins (λ word. word.kind ≡ kind.Name)

-- a refusal as too deep comes only where one of the two numbers is passed
abbrev pub RefusesPast : (depth left : ℕ) → Reader → Reader → Counted → Type 0
RefusesPast depth left before after result = IfErr result (IfTooDeep (ExprPassed depth left (ahead before) (ahead after)))

-- any words
abbrev pub Anything : Grammar
Anything ws = Unit {0}

-- A reader of what a grammar spells, with at most `left` operators: what the words spell is read where what follows it is so, no front
-- that is spelled is longer than what is read, and where the reading ends what stands next is so.
pub record ReadsCounted (Follows Ended : Grammar) (Of : ℕ → PlainExpr → Grammar) (depth left : ℕ) (before after : Reader) (result : Counted) : Type 0 where
  pub taken : TakesExpr (Of depth) before after result
  pub count : CountsOperators left result
  pub only : (more : ℕ) (e : PlainExpr) (rest : List Word) → MayTake (Of more e) (ahead before) rest → Follows rest → IsCountedRead depth left more e rest after result
  pub longest : ReadsLongest Of before after result
  pub whole : IfOk result (λ _. Ended (ahead after))
  pub deep : RefusesPast depth left before after result

-- the same of a level of operators
abbrev pub ReadsLevel : (level : ℕ) → (ℕ → PlainExpr → Grammar) → (depth left : ℕ) → Reader → Reader → Counted → Type 0
ReadsLevel level Of depth left before after result = ReadsCounted (EndsLevel level) (GoesNoFurther level) Of depth left before after result

-- the same whatever follows
abbrev pub ReadsAnywhere : (ℕ → PlainExpr → Grammar) → (depth left : ℕ) → Reader → Reader → Counted → Type 0
ReadsAnywhere Of depth left before after result = ReadsCounted Anything Anything Of depth left before after result

-- the test of a header begins here
abbrev pub BeginsTest : Grammar
BeginsTest ws = Begins (IsNamed (codes "hdr")) ws × StandsTest ws

-- the same of the tokens of a text from one place on
abbrev pub TakesExprAt : ℕ → List ℕ → List Token → ℕ → Counted → Type 0
TakesExprAt depth text tokens at result = IfOk result (λ r. Takes (SpellsExpr depth (seen_expr r.0)) (words text (drop at tokens)) (words text (drop r.1 tokens)))

abbrev pub ReadsExprAt : ℕ → List ℕ → List Token → ℕ → Counted → Type 0
ReadsExprAt depth text tokens at result = (more : ℕ) (e : PlainExpr) (rest : List Word) → MayTake (SpellsExpr more e) (words text (drop at tokens)) rest → Ends expression_signs rest → IsExpr depth more e rest text tokens result

abbrev pub RefusesExprAt : ℕ → List ℕ → List Token → ℕ → Counted → Type 0
RefusesExprAt depth text tokens at result = IfErr result (IfTooDeepAt (PassedAt (ExprPassed depth most_operators) text tokens at))

abbrev pub ReadsLongestAt : List ℕ → List Token → ℕ → Result (Expr × ℕ) SyntaxError → Type 0
ReadsLongestAt text tokens at result = IfOk result (λ r. (more : ℕ) (e : PlainExpr) (rest : List Word) → MayTake (SpellsExpr more e) (words text (drop at tokens)) rest → length (words text (drop r.1 tokens)) ≤ length rest)

-- The same of a reader that doesn't count: of whole expressions, where no sign follows with which one goes on.
pub record ReadsWhole (depth : ℕ) (before after : Reader) (result : Result Expr SyntaxError) : Type 0 where
  pub taken : IfOk result (λ e. Takes (SpellsExpr depth (seen_expr e)) (ahead before) (ahead after))
  pub few : IfOk result (λ e. HasFewOperators (seen_expr e))
  pub only : (more : ℕ) (e : PlainExpr) (rest : List Word) → MayTake (SpellsExpr more e) (ahead before) rest → Ends expression_signs rest → IsReading ((more ≤ depth) × HasFewOperators e) seen_expr e rest (ahead after) result
  pub longest : ReadsLongest SpellsExpr before after result
  pub whole : IfOk result (λ _. GoesNoFurther weakest (ahead after))
  pub deep : IfErr result (IfTooDeep (ExprPassed depth most_operators (ahead before) (ahead after)))

-- an expression of a level goes no further at a place of a text
abbrev pub GoesNoFurtherAt : ℕ → List ℕ → List Token → ℕ → Type 0
GoesNoFurtherAt level text tokens at = GoesNoFurther level (words text (drop at tokens))

-- an operator of a level is passed, where one is answered
abbrev pub PassesOperator : ℕ → Reader → Reader → Option ℕ → Type 0
PassesOperator level before after result = IfSome result (λ code. Passes level code (ahead before) (ahead after))

-- what is made is this tree
abbrev pub Makes : PlainExpr → Result Expr SyntaxError → Type 0
Makes tree result = IfOk result (λ e. seen_expr e ≡ tree)
