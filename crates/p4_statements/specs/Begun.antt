-- Words with which statements begin and within one of which they end, this project's own: how many brackets stand open behind them,
-- where a branch that is no block in brackets counts as one.
use Rattle.std.specs.Prelude.{◌≡◌, ℕ, suc, false, List, [], ◌++◌, Option, codes}
use Rattle.elastic_ast.specs.Tree.{Name, PlainExpr, PlainStmts}
use Rattle.spelling.specs.Words.{Word}
use Rattle.spelling.specs.Grammar.{Begins, IsSign, Sign, Reserved}
use Rattle.spelling.specs.Bounds.{Line}
use Rattle.p4_statements.specs.Statements.{SpellsStage, SpellsCondition, SpellsTurns, SpellsStmts, SpellsBranch}

-- behind these words a branch of an `if` stands
pub data BranchAhead : List Word → Type 0 where
  yes : {ws : List Word} → (depth : ℕ) (condition : PlainExpr) →
      SpellsCondition depth condition ws →
      BranchAhead ws
  no : {ws : List Word} → (depth : ℕ) (condition : PlainExpr) (stmts : PlainStmts) (front first between : List Word) →
      SpellsCondition depth condition front →
      SpellsBranch depth false stmts first →
      Reserved (codes "else") between →
      ws ≡ front ++ first ++ between →
      BranchAhead ws

-- behind these words the bracket of a block stands
pub data BlockAhead : List Word → Type 0 where
  block : {ws : List Word} → (depth : ℕ) (stage : Option ℕ) →
      SpellsStage depth stage ws →
      BlockAhead ws
  turns : {ws : List Word} → (depth : ℕ) (index size : Name) →
      SpellsTurns depth index size ws →
      BlockAhead ws
  branch : {ws : List Word} →
      BranchAhead ws →
      BlockAhead ws

mutual
  -- A statement that is begun, where these words follow.
  pub data StmtBegun (after : List Word) : ℕ → List Word → Type 0 where
    -- within a statement without statements in it, or before the block or the branch of another
    line : {count : ℕ} → {ws : List Word} →
        Line count ws →
        StmtBegun after count ws
    -- before the bracket of a block
    ahead : {ws : List Word} →
        BlockAhead ws →
        StmtBegun after 0 ws
    -- within a block
    inside : {count : ℕ} → {ws : List Word} → (front opening back : List Word) →
        BlockAhead front →
        Sign (codes "{") opening →
        StmtsBegun after count back →
        ws ≡ front ++ opening ++ back →
        StmtBegun after (suc count) ws
    -- within a branch that is no block in brackets
    alone : {count : ℕ} → {ws : List Word} → (front back : List Word) →
        BranchAhead front →
        StmtBegun after count back →
        (Begins (IsSign (codes "{")) (back ++ after) → ⊥) →
        ws ≡ front ++ back →
        StmtBegun after (suc count) ws

  -- statements, and one that is begun behind them
  pub data StmtsBegun (after : List Word) : ℕ → List Word → Type 0 where
    among : {count depth : ℕ} → {stmts : PlainStmts} → {ws : List Word} → (front back : List Word) →
        SpellsStmts depth stmts front →
        StmtBegun after count back →
        ws ≡ front ++ back →
        StmtsBegun after count ws

-- a block that is begun: before its bracket, or within it
pub data BlockBegun (after : List Word) : ℕ → List Word → Type 0 where
  ahead : BlockBegun after 0 []
  inside : {count : ℕ} → {ws : List Word} → (opening back : List Word) →
      Sign (codes "{") opening →
      StmtsBegun after count back →
      ws ≡ opening ++ back →
      BlockBegun after (suc count) ws

-- a branch that is begun: a block, or another statement, which counts as one bracket
pub data BranchBegun (after : List Word) : ℕ → List Word → Type 0 where
  block : {count : ℕ} → {ws : List Word} →
      BlockBegun after count ws →
      BranchBegun after count ws
  alone : {count : ℕ} → {ws : List Word} →
      StmtBegun after count ws →
      (Begins (IsSign (codes "{")) (ws ++ after) → ⊥) →
      BranchBegun after (suc count) ws
