-- Where one of the two numbers of a reader is passed, that of brackets or that of operators in an expression; this project's own.
use Rattle.std.specs.Prelude.{◌≡◌, ℕ, ◌+◌, ◌<◌, ◌≤◌, Bool, true, false, List, [], ◌++◌, codes, ◌⊎◌}
use Rattle.elastic_ast.specs.declared.statements.Amount.{Amount}
use Rattle.elastic_ast.specs.OperatorSorts.{Operator}
use Rattle.elastic_ast.specs.Tree.{PlainExpr}
use Rattle.spelling.specs.Words.{Word}
use Rattle.spelling.specs.Grammar.{Grammar, ◌⨟◌, Begins, IsNamed, Named, Sign}
use Rattle.spelling.specs.Bounds.{Opens, Line, OpensNext, Stops}
use Rattle.p4_expr.specs.Operators.{SpellsOperator, level_of, operators_in}
use Rattle.p4_expr.specs.Parts.{SpellsAmount, SpellsCast}
use Rattle.p4_expr.specs.Expressions.{SpellsPrimary, most_operators}
use Rattle.p4_expr.specs.Standing.{Stands, StandsTest, StandsHash, StandsCast, StandsSlice}

-- Words with which an expression begins, and how many operators stand in them. The flag says whether an operand ends with them;
-- else one is to follow.
pub data Begun : Bool → ℕ → List Word → Type 0 where
  nothing : Begun false 0 []
  -- an opening bracket
  bracket : {count : ℕ} → {ws : List Word} → (front back : List Word) →
      Begun false count front →
      Sign (codes "(") back →
      ws ≡ front ++ back →
      Begun false count ws
  -- `~` or `!`
  unary : {count : ℕ} → {ws : List Word} → (operator : Operator) (front back : List Word) →
      level_of operator ≡ 0 →
      Begun false count front →
      SpellsOperator operator back →
      ws ≡ front ++ back →
      Begun false (count + 1) ws
  cast : {count : ℕ} → {ws : List Word} → (depth width : ℕ) (front back : List Word) →
      Begun false count front →
      SpellsCast depth width back →
      ws ≡ front ++ back →
      Begun false (count + 1) ws
  -- a hash up to what it is taken of
  hash : {count : ℕ} → {ws : List Word} → (number : Amount) (front back : List Word) →
      Begun false count front →
      (Named (codes "hash") ⨟ Sign (codes "(") ⨟ SpellsAmount number ⨟ Sign (codes ",")) back →
      ws ≡ front ++ back →
      Begun false (count + 1) ws
  operand : {count depth : ℕ} → {e : PlainExpr} → {ws : List Word} → (front back : List Word) →
      Begun false count front →
      SpellsPrimary depth e back →
      ws ≡ front ++ back →
      Begun true (count + operators_in e) ws
  binary : {count : ℕ} → {ws : List Word} → (operator : Operator) (front back : List Word) →
      0 < level_of operator →
      Begun true count front →
      SpellsOperator operator back →
      ws ≡ front ++ back →
      Begun false (count + 1) ws

-- An operator begins here: behind an operand a binary one or a slice, else a prefixed one, a cast, a hash or the test of a header.
abbrev pub BeginsOperator : Bool → List Word → Type 0
BeginsOperator true ws = ((operator : Operator) × (0 < level_of operator) × Stands operator ws) ⊎ StandsSlice ws
BeginsOperator false ws = ((operator : Operator) × (level_of operator ≡ 0) × Stands operator ws) ⊎ StandsCast ws ⊎ StandsHash ws ⊎ (Begins (IsNamed (codes "hdr")) ws × StandsTest ws)

-- An expression begins at the first place and goes on at the second, and an operator stands there that has so many before it.
pub record OperatorsPassed (most : ℕ) (before after : List Word) : Type 0 where
  pub front : List Word
  pub joined : before ≡ front ++ after
  pub ended : Bool
  pub begun : Begun ended most front
  pub next : BeginsOperator ended after

-- an expression passes one of the two: as many brackets stand open before an opening one as may, or as many operators before one
abbrev pub ExprPassed : (depth left : ℕ) (before after : List Word) → Type 0
ExprPassed depth left before after = Stops (Line depth) OpensNext before after ⊎ OperatorsPassed left before after

-- an expression that begins behind so many open brackets, or more, has as many operators as it may
pub record OperatorsWithin (enclosed : ℕ) (before after : List Word) : Type 0 where
  pub front : List Word
  pub back : List Word
  pub joined : before ≡ front ++ back
  pub count : ℕ
  pub at_least : enclosed ≤ count
  pub opened : Opens count front
  pub passed : OperatorsPassed most_operators back after

-- the same where expressions are parts of what is begun: an opening bracket stands behind what is begun, or an operator is one too many
abbrev pub BoundPassed : Grammar → (enclosed : ℕ) (before after : List Word) → Type 0
BoundPassed Begins enclosed before after = Stops Begins OpensNext before after ⊎ OperatorsWithin enclosed before after
