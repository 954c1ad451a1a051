-- Readers of what may end in an open `if`.
use Rattle.std.proofs.Common.{◌≡◌, ℕ, ◌≤◌, Bool, false, List, Result, codes}
use Rattle.std.proofs.lemmas.Bool.{false≢true}
use Rattle.std.proofs.lemmas.Result.{IfOk-weaker}
use Rattle.std.specs.Prelude.{IfOk}
use Rattle.std.specs.Result.{IsErrAnd}
use Rattle.elastic_ast.specs.declared.statements.Stmt.{Stmt}
use Rattle.elastic_ast.specs.Tree.{PlainStmts}
use Rattle.elastic_ast.specs.Seen.{seen_stmt}
use Rattle.spelling.specs.Words.{Word}
use Rattle.spelling.specs.Grammar.{Grammar, Begins, IsReserved, IsSign}
use Rattle.spelling.specs.Bounds.{IfTooDeep}
use Rattle.spelling.specs.Reading.{ahead, MayTake, Takes, WantsOr}
use Rattle.spelling.specs.declared.error.SyntaxError.{SyntaxError}
use Rattle.spelling.specs.declared.reader.Reader.{Reader}
use Rattle.spelling.proofs.Refusals.{of_refusal}
use Rattle.p4_statements.specs.Reading.{HaveFew, ReadsStmtsUpTo, TakesToEnd}
use Rattle.p4_statements.specs.Statements.{SpellsStmt}
use Rattle.p4_statements.specs.ReadingStatements.{ReadsClosed, ReadsIf, ReadsStatement, ReadsToEnd}

pub refused_to_end : {A B : Type 0} {Of : ℕ → Bool → B → Grammar} {seen : A → B} {Few : B → Type 0} {Taken : (Bool → Grammar) → List Word → List Word → Type 0} {Where : List Word → Bool → List Word → Type 0} {Passed : List Word → List Word → Type 0} {depth : ℕ} {before after : Reader} {result : Result A SyntaxError} (e : SyntaxError) → IsErrAnd result (λ d. d ≡ e) → ((more : ℕ) (open_end : Bool) (x : B) (rest : List Word) → MayTake (Of more open_end x) (ahead before) rest → Where (ahead before) open_end rest → WantsOr ((more ≤ depth) × Few x) e) → IfTooDeep (Passed (ahead before) (ahead after)) e → ReadsToEnd Of seen Few Taken Where Passed depth before after result
refused_to_end {Of = Of} {seen = seen} {Few = Few} {Taken = Taken} {Where = Where} {Passed = Passed} {depth = depth} {before = before} {after = end} e is want deep =
    of_refusal (λ r. ReadsToEnd Of seen Few Taken Where Passed depth before end r) is record { taken = tt; few = tt; only = want; deep = deep }

pub refused_stmts : {Of : ℕ → PlainStmts → Grammar} {Passed : List Word → List Word → Type 0} {depth : ℕ} {before after : Reader} {result : Result (List Stmt) SyntaxError} (e : SyntaxError) → IsErrAnd result (λ d. d ≡ e) → ((more : ℕ) (stmts : PlainStmts) (rest : List Word) → MayTake (Of more stmts) (ahead before) rest → Begins (IsSign (codes "}")) rest → WantsOr ((more ≤ depth) × HaveFew stmts) e) → IfTooDeep (Passed (ahead before) (ahead after)) e → ReadsStmtsUpTo Of Passed depth before after result
refused_stmts {Of = Of} {Passed = Passed} {depth = depth} {before = before} {after = end} e is want deep =
    of_refusal (λ r. ReadsStmtsUpTo Of Passed depth before end r) is record { taken = tt; few = tt; ended = tt; only = want; deep = deep }

-- what doesn't end in an open `if` is taken to an end
pub closed_taken : {A : Type 0} (Of : A → Bool → Grammar) (result : Result A SyntaxError) (a c : List Word) → IfOk result (λ x. Takes (Of x false) a c) → IfOk result (λ x. TakesToEnd (Of x) a c)
closed_taken Of result a c taken = IfOk-weaker result _ _ (λ x t. record { open_end = false; taken = t; ends = λ e _. absurd (false≢true e) }) taken

-- a reader of what is told by its first word, where this stands
pub of_closed : {First : Grammar} {depth : ℕ} {before after : Reader} {result : Result Stmt SyntaxError} → ReadsClosed First depth before after result → First (ahead before) → ReadsStatement depth before after result
of_closed {depth = depth} {result = result} r at =
    record {
      taken = closed_taken (λ s open_end. SpellsStmt depth open_end (seen_stmt s)) result _ _ r.taken;
      few = r.few;
      only = λ more open_end stmt rest m ends. r.only more open_end stmt rest m at;
      deep = r.deep;
    }

pub of_if : {depth : ℕ} {before after : Reader} {result : Result Stmt SyntaxError} → ReadsIf depth before after result → Begins (IsReserved (codes "if")) (ahead before) → ReadsStatement depth before after result
of_if r at = record { taken = r.taken; few = r.few; only = λ more open_end stmt rest m ends. r.only more open_end stmt rest m (at, ends); deep = r.deep }
