-- Laws of the depth of expressions and of the levels of operators, this project's own.
use Rattle.std.specs.Prelude.{ℕ, ◌<◌, ◌≤◌, List, codes}
use Rattle.elastic_ast.specs.OperatorSorts.{operator_of}
use Rattle.elastic_ast.specs.Tree.{PlainExpr}
use Rattle.spelling.specs.Brackets.{most_open}
use Rattle.spelling.specs.Words.{Word}
use Rattle.spelling.specs.Grammar.{Begins, Grammar, IsSign}
use Rattle.p4_expr.specs.Operators.{level_of}
use Rattle.p4_expr.specs.Expressions.{SpellsExpr, SpellsLevel, SpellsPrimary}

-- what is spelled within a depth is spelled within each greater one
abbrev pub GreaterDepths : Type 0
GreaterDepths = (depth more : ℕ) (e : PlainExpr) (ws : List Word) → depth ≤ more → SpellsExpr depth e ws → SpellsExpr more e ws

-- no more brackets are open at a word than the depth says
abbrev pub OpenAtMost : Type 0
OpenAtMost = (depth : ℕ) (e : PlainExpr) (ws : List Word) → SpellsExpr depth e ws → most_open ws ≤ depth

-- what is spelled at all is spelled within each depth that is as great as the number of open brackets
abbrev pub AsManyAsOpen : Type 0
AsManyAsOpen = (depth more : ℕ) (e : PlainExpr) (ws : List Word) → SpellsExpr depth e ws → most_open ws ≤ more → SpellsExpr more e ws

-- an opening round bracket stands first
abbrev pub BeginsRound : Grammar
BeginsRound = Begins (IsSign (codes "("))

-- a binary operator that is weaker than its place allows stands in brackets
abbrev pub WeakerInBrackets : Type 0
WeakerInBrackets = (depth level op : ℕ) (left right : PlainExpr) (ws : List Word) → SpellsLevel depth level (PlainExpr.Binary op left right) ws → level < level_of (operator_of op) → BeginsRound ws

-- so do a prefix and a cast before a slice
abbrev pub PrefixInBrackets : Type 0
PrefixInBrackets = (depth op : ℕ) (of : PlainExpr) (ws : List Word) → SpellsPrimary depth (PlainExpr.Unary op of) ws → BeginsRound ws

abbrev pub CastInBrackets : Type 0
CastInBrackets = (depth width : ℕ) (of : PlainExpr) (ws : List Word) → SpellsPrimary depth (PlainExpr.Cast width of) ws → BeginsRound ws
