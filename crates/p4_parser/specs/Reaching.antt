-- How many brackets stand open behind the words of a part of a program, this project's own: within statements a branch that is no
-- block in brackets counts as one.
use Rattle.std.specs.Prelude.{◌≡◌, ℕ, ◌+◌, List, ◌++◌}
use Rattle.spelling.specs.Words.{Word}
use Rattle.spelling.specs.Bounds.{Opens}
use Rattle.p4_expr.specs.Passing.{BoundPassed}
use Rattle.p4_statements.specs.Begun.{StmtsBegun}

pub data Reaches (after : List Word) : ℕ → List Word → Type 0 where
  brackets : {count : ℕ} → {ws : List Word} →
      Opens count ws →
      Reaches after count ws
  -- within the statements of a control
  statements : {outside within : ℕ} → {ws : List Word} → (front back : List Word) →
      Opens outside front →
      StmtsBegun after within back →
      ws ≡ front ++ back →
      Reaches after (outside + within) ws

-- One of the two numbers of a program is passed: an opening bracket stands where as many are open as may, or an operator where as many
-- stand before it in its expression. Each expression stands within two brackets at least, the sums of `assume` and `maximize`, which
-- have no such number, within one.
abbrev pub ProgramPassed : ℕ → List Word → List Word → Type 0
ProgramPassed depth before after = BoundPassed (Reaches after depth) 2 before after
