-- What the readers of statements take and answer, this project's own.
use Rattle.std.specs.Prelude.{◌≡◌, ℕ, ◌≤◌, Bool, true, List, Option, All, Result, IfOk, IfErr, OnOk, codes, drop, ◌⊎◌}
use Rattle.p4_lexer.specs.declared.token.Kind.TheVariants as kind
use Rattle.elastic_ast.specs.declared.statements.Lval.{Lval}
use Rattle.elastic_ast.specs.declared.statements.RegRef.{RegRef}
use Rattle.elastic_ast.specs.declared.statements.Expr.{Expr}
use Rattle.elastic_ast.specs.declared.statements.Stmt.{Stmt}
use Rattle.elastic_ast.specs.Seen.{seen_expr, seen_exprs, seen_stmt, seen_stmts}
use Rattle.elastic_ast.specs.Tree.{Name, PlainExpr, PlainStmt, PlainStmts}
use Rattle.spelling.specs.Words.{Word}
use Rattle.spelling.specs.Grammar.{Grammar, ◌⨟◌, Begins, Bracketed, Commas, IsNamed, IsReserved, IsSign, Named, Separated, Sign}
use Rattle.spelling.specs.Bounds.{IfTooDeep, Line, Opens}
use Rattle.spelling.specs.Reading.{ahead, IsReading, MayTake, Takes}
use Rattle.spelling.specs.declared.error.SyntaxError.{SyntaxError}
use Rattle.spelling.specs.declared.reader.Reader.{Reader}
use Rattle.spelling.specs.Readers.{ReadsFew, ReadsFewBefore, ReadsFewMade, ReadsFewUpTo}
use Rattle.p4_expr.specs.Passing.{BoundPassed}
use Rattle.p4_expr.specs.Parts.{SpellsRegister}
use Rattle.p4_expr.specs.Expressions.{HasFewOperators, SpellsExpr}
use Rattle.p4_statements.specs.Statements.{SpellsApply, SpellsCall, SpellsPlain, SpellsPlains}
use Rattle.p4_statements.specs.ExpressionsIn.{expressions_of, expressions_of_all}

-- a statement that has no statement in it
abbrev pub SpellsSimple : ℕ → PlainStmt → Grammar
SpellsSimple depth (PlainStmt.Call action index arguments) = SpellsCall depth action index arguments
SpellsSimple depth (PlainStmt.Apply table) = SpellsApply depth table
SpellsSimple depth stmt = SpellsPlain depth stmt

-- what stands behind `=` in a read of a register: reg '.' 'read' '(' expr ')' ';'
abbrev pub SpellsReadOf : ℕ → RegRef → PlainExpr → Grammar
SpellsReadOf depth register cell = SpellsRegister depth register ⨟ Sign (codes ".") ⨟ Named (codes "read") ⨟ Bracketed (codes "(") (codes ")") depth (λ inner. SpellsExpr inner cell) ⨟ Sign (codes ";")

-- what stands behind `=` makes this statement, and has few operators
pub record ReadsInto (depth : ℕ) (to : Lval) (before after : List Word) (stmt : PlainStmt) : Type 0 where
  pub register : RegRef
  pub cell : PlainExpr
  pub is : stmt ≡ PlainStmt.Read to register cell
  pub few : HasFewOperators cell
  pub taken : Takes (SpellsReadOf depth register cell) before after

pub record Assigns (depth : ℕ) (to : Lval) (before after : List Word) (stmt : PlainStmt) : Type 0 where
  pub value : PlainExpr
  pub is : stmt ≡ PlainStmt.Assign to value
  pub few : HasFewOperators value
  pub taken : Takes (SpellsExpr depth value ⨟ Sign (codes ";")) before after

-- a name, and behind it an index, or the call of `read`
abbrev pub IsReadAhead : List Word → Type 0
IsReadAhead ws = Begins (λ word. word.kind ≡ kind.Name) ws × ((Begins (IsSign (codes "[")) (drop 1 ws) × Begins (λ word. word.kind ≡ kind.Name) (drop 2 ws)) ⊎ (Begins (IsSign (codes ".")) (drop 1 ws) × Begins (IsNamed (codes "read")) (drop 2 ws) × Begins (IsSign (codes "(")) (drop 3 ws)))

-- An `else` that follows what ends in an `if` without `else` belongs to that `if`: so none does.
abbrev pub EndsStmt : Bool → List Word → Type 0
EndsStmt open_end ws = open_end ≡ true → Begins (IsReserved (codes "else")) ws → ⊥

-- What is spelled with an open end or without, and no `else` follows an open end.
pub record TakesToEnd (Of : Bool → Grammar) (before : List Word) (after : List Word) : Type 0 where
  pub open_end : Bool
  pub taken : Takes (Of open_end) before after
  pub ends : EndsStmt open_end after

-- no expression of a statement, or of several, has too many operators
abbrev pub HasFew : PlainStmt → Type 0
HasFew stmt = All HasFewOperators (expressions_of stmt)

abbrev pub HaveFew : PlainStmts → Type 0
HaveFew stmts = All HasFewOperators (expressions_of_all stmts)

-- a bound is passed within one statement without statements in it
abbrev pub LinePassed : ℕ → List Word → List Word → Type 0
LinePassed depth before after = BoundPassed (Line depth) 0 before after

-- A reader of an expression, perhaps with words around it.
abbrev pub ReadsExpr : (ℕ → PlainExpr → Grammar) → (depth : ℕ) → (before after : Reader) → Result Expr SyntaxError → Type 0
ReadsExpr Of depth = ReadsFew Of seen_expr HasFewOperators (LinePassed depth) depth

-- expr ',' expr
abbrev pub SpellsTwo : ℕ → PlainExpr × PlainExpr → Grammar
SpellsTwo depth both = SpellsExpr depth both.0 ⨟ Sign (codes ",") ⨟ SpellsExpr depth both.1

abbrev pub seen_two : Expr × Expr → PlainExpr × PlainExpr
seen_two both = (seen_expr both.0, seen_expr both.1)

abbrev pub ReadsTwo : (ℕ → PlainExpr × PlainExpr → Grammar) → (depth : ℕ) → (before after : Reader) → Result (Expr × Expr) SyntaxError → Type 0
ReadsTwo Of depth = ReadsFew Of seen_two (λ both. HasFewOperators both.0 × HasFewOperators both.1) (LinePassed depth) depth

abbrev pub ReadsTwoUpTo : (ℕ → PlainExpr × PlainExpr → Grammar) → (depth : ℕ) → (before after : Reader) → Result (Expr × Expr) SyntaxError → Type 0
ReadsTwoUpTo Of depth = ReadsFewUpTo (Begins (IsSign (codes ")"))) Of seen_two (λ both. HasFewOperators both.0 × HasFewOperators both.1) (LinePassed depth) depth

-- A reader of the arguments of a call, and of expressions with commas between them.
abbrev pub ReadsExprs : (ℕ → List PlainExpr → Grammar) → (depth : ℕ) → (before after : Reader) → Result (List Expr) SyntaxError → Type 0
ReadsExprs Of depth = ReadsFew Of seen_exprs (λ es. All HasFewOperators es) (LinePassed depth) depth

abbrev pub ReadsExprsUpTo : (ℕ → List PlainExpr → Grammar) → (depth : ℕ) → (before after : Reader) → Result (List Expr) SyntaxError → Type 0
ReadsExprsUpTo Of depth = ReadsFewUpTo (Begins (IsSign (codes ")"))) Of seen_exprs (λ es. All HasFewOperators es) (LinePassed depth) depth

-- A reader of a statement without statements in it, and of one form of such.
abbrev pub ReadsStmt : (ℕ → PlainStmt → Grammar) → (depth : ℕ) → (before after : Reader) → Result Stmt SyntaxError → Type 0
ReadsStmt Of depth = ReadsFew Of seen_stmt HasFew (LinePassed depth) depth

abbrev pub ReadsStmtMade : {I : Type 0} → (ℕ → PlainStmt → Grammar) → (I → PlainStmt) → (depth : ℕ) → (before after : Reader) → Result Stmt SyntaxError → Type 0
ReadsStmtMade Of made depth = ReadsFewMade Of seen_stmt made HasFew (LinePassed depth) depth

abbrev pub a_write : RegRef × PlainExpr × PlainExpr → PlainStmt
a_write of = PlainStmt.Write of.0 of.1 of.2

abbrev pub a_call : Name × Option Name × List PlainExpr → PlainStmt
a_call of = PlainStmt.Call of.0 of.1 of.2

-- expr (',' expr)*, and perhaps none
abbrev pub SpellsExprList : ℕ → List PlainExpr → Grammar
SpellsExprList depth es = Separated (Sign (codes ",")) (SpellsExpr depth) es

abbrev pub SpellsArguments : ℕ → List PlainExpr → Grammar
SpellsArguments depth es = Commas (SpellsExpr depth) es

abbrev pub ReadsExprsBefore : (ℕ → List PlainExpr → Grammar) → (depth : ℕ) → (before after : Reader) → Result (List Expr) SyntaxError → Type 0
ReadsExprsBefore Of depth = ReadsFewBefore (Begins (IsSign (codes ")"))) Of seen_exprs (λ es. All HasFewOperators es) (LinePassed depth) depth

abbrev pub a_change : Name × Bool → PlainStmt
a_change of = PlainStmt.Valid of.0 of.1

-- the bracket of a block stands first
abbrev pub OpensNextBlock : Grammar
OpensNextBlock = Begins (IsSign (codes "{"))

-- A reader of what stands behind `=`: a read of a register, or an expression.
pub record ReadsRead (depth : ℕ) (to : Lval) (before after : Reader) (result : Result Stmt SyntaxError) : Type 0 where
  pub taken : IfOk result (λ stmt. ReadsInto depth to (ahead before) (ahead after) (seen_stmt stmt))
  pub only : (more : ℕ) (register : RegRef) (cell : PlainExpr) (rest : List Word) → MayTake (SpellsReadOf more register cell) (ahead before) rest → IsReading ((more ≤ depth) × HasFewOperators cell) seen_stmt (PlainStmt.Read to register cell) rest (ahead after) result
  pub deep : IfErr result (IfTooDeep (LinePassed depth (ahead before) (ahead after)))

pub record ReadsAssign (depth : ℕ) (to : Lval) (before after : Reader) (result : Result Stmt SyntaxError) : Type 0 where
  pub taken : IfOk result (λ stmt. Assigns depth to (ahead before) (ahead after) (seen_stmt stmt))
  pub only : (more : ℕ) (value : PlainExpr) (rest : List Word) → MayTake (SpellsExpr more value ⨟ Sign (codes ";")) (ahead before) rest → IsReading ((more ≤ depth) × HasFewOperators value) seen_stmt (PlainStmt.Assign to value) rest (ahead after) result
  pub deep : IfErr result (IfTooDeep (LinePassed depth (ahead before) (ahead after)))

-- A reader of statements that a grammar spells, which ends before a closing bracket.
pub record ReadsStmtsUpTo (Of : ℕ → PlainStmts → Grammar) (Passed : List Word → List Word → Type 0) (depth : ℕ) (before after : Reader) (result : Result (List Stmt) SyntaxError) : Type 0 where
  pub taken : IfOk result (λ stmts. MayTake (Of depth (seen_stmts stmts)) (ahead before) (ahead after))
  pub few : IfOk result (λ stmts. HaveFew (seen_stmts stmts))
  pub ended : OnOk result (Begins (IsSign (codes "}")) (ahead after))
  pub only : (more : ℕ) (stmts : PlainStmts) (rest : List Word) → MayTake (Of more stmts) (ahead before) rest → Begins (IsSign (codes "}")) rest → IsReading ((more ≤ depth) × HaveFew stmts) seen_stmts stmts rest (ahead after) result
  pub deep : IfErr result (IfTooDeep (Passed (ahead before) (ahead after)))

abbrev pub ReadsPlains : (depth : ℕ) → (before after : Reader) → Result (List Stmt) SyntaxError → Type 0
ReadsPlains depth = ReadsStmtsUpTo SpellsPlains (BoundPassed (Opens depth) 0) depth
