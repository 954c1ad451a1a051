-- What the readers of statements take and answer, which call one another; this project's own.
use Rattle.std.specs.Prelude.{ℕ, ◌<◌, ◌≤◌, Bool, false, List, Result, IfOk, IfErr, codes, ◌⊎◌}
use Rattle.elastic_ast.specs.declared.statements.Stmt.{Stmt}
use Rattle.elastic_ast.specs.Seen.{seen_stmt, seen_stmts}
use Rattle.spelling.specs.Words.{Word}
use Rattle.spelling.specs.Grammar.{Grammar, Begins, IsReserved, IsSign}
use Rattle.spelling.specs.Bounds.{IfTooDeep}
use Rattle.spelling.specs.Reading.{ahead, IsReading, MayTake, Takes}
use Rattle.spelling.specs.Readers.{InCurly, ReadsFew}
use Rattle.spelling.specs.declared.error.SyntaxError.{SyntaxError}
use Rattle.spelling.specs.declared.reader.Reader.{Reader}
use Rattle.p4_expr.specs.Passing.{BoundPassed}
use Rattle.p4_statements.specs.Begun.{BlockBegun, BranchBegun, StmtBegun, StmtsBegun}
use Rattle.p4_statements.specs.Reading.{EndsStmt, HasFew, HaveFew, ReadsStmtsUpTo, TakesToEnd}
use Rattle.p4_statements.specs.Statements.{SpellsBranch, SpellsStmt, SpellsStmts}

-- a bound is passed behind words that are so begun
abbrev pub PassedIn : (List Word → ℕ → Grammar) → (depth : ℕ) → (before after : List Word) → Type 0
PassedIn Begun depth before after = BoundPassed (Begun after depth) 0 before after

-- A reader of statements up to a closing bracket.
abbrev pub ReadsStmts : (depth : ℕ) → (before after : Reader) → Result (List Stmt) SyntaxError → Type 0
ReadsStmts depth = ReadsStmtsUpTo SpellsStmts (PassedIn StmtsBegun depth) depth

-- A reader of what may end in an open `if`. It takes it to an end, and reads what words spell that begin so and are so followed.
pub record ReadsToEnd {A B : Type 0} (Of : ℕ → Bool → B → Grammar) (seen : A → B) (Few : B → Type 0) (Taken : (Bool → Grammar) → List Word → List Word → Type 0) (Where : List Word → Bool → List Word → Type 0) (Passed : List Word → List Word → Type 0) (depth : ℕ) (before after : Reader) (result : Result A SyntaxError) : Type 0 where
  pub taken : IfOk result (λ read. Taken (λ open_end. Of depth open_end (seen read)) (ahead before) (ahead after))
  pub few : IfOk result (λ read. Few (seen read))
  pub only : (more : ℕ) (open_end : Bool) (x : B) (rest : List Word) → MayTake (Of more open_end x) (ahead before) rest → Where (ahead before) open_end rest → IsReading ((more ≤ depth) × Few x) seen x rest (ahead after) result
  pub deep : IfErr result (IfTooDeep (Passed (ahead before) (ahead after)))

abbrev pub ReadsStatement : (depth : ℕ) → (before after : Reader) → Result Stmt SyntaxError → Type 0
ReadsStatement depth = ReadsToEnd SpellsStmt seen_stmt HasFew TakesToEnd (λ _. EndsStmt) (PassedIn StmtBegun depth) depth

-- an `if`, which is told by its first word
abbrev pub ReadsIf : (depth : ℕ) → (before after : Reader) → Result Stmt SyntaxError → Type 0
ReadsIf depth = ReadsToEnd SpellsStmt seen_stmt HasFew TakesToEnd (λ ws open_end rest. Begins (IsReserved (codes "if")) ws × EndsStmt open_end rest) (PassedIn StmtBegun depth) depth

-- what is told by its first word and ends in no open `if`: a block and a loop
abbrev pub ReadsClosed : (First : Grammar) → (depth : ℕ) → (before after : Reader) → Result Stmt SyntaxError → Type 0
ReadsClosed First depth = ReadsToEnd SpellsStmt seen_stmt HasFew (λ Of. Takes (Of false)) (λ ws _ _. First ws) (PassedIn StmtBegun depth) depth

abbrev pub BeginsBlock : List Word → Type 0
BeginsBlock ws = Begins (IsSign (codes "{")) ws ⊎ Begins (IsSign (codes "@")) ws

abbrev pub BeginsFor : List Word → Type 0
BeginsFor ws = Begins (IsReserved (codes "for")) ws

-- a branch, which counts as a bracket where it is none
abbrev pub ReadsBranch : (depth : ℕ) → (before after : Reader) → Result (List Stmt) SyntaxError → Type 0
ReadsBranch depth = ReadsToEnd SpellsBranch seen_stmts HaveFew TakesToEnd (λ _. EndsStmt) (λ before after. 0 < depth → PassedIn BranchBegun depth before after) depth

-- statements in brackets
abbrev pub ReadsBraces : (depth : ℕ) → (before after : Reader) → Result (List Stmt) SyntaxError → Type 0
ReadsBraces depth = ReadsFew (InCurly SpellsStmts) seen_stmts HaveFew (PassedIn BlockBegun depth) depth
