-- A statement that is spelled within a depth is spelled within each greater one.
use Rattle.spelling.proofs.Limits.{inside}
use Rattle.std.proofs.Common.{ℕ, zero, suc, ◌≤◌, Bool, List, Option, None, Some, codes, arith}
use Rattle.elastic_ast.specs.Tree.{Name, PlainExpr, PlainStmt, PlainStmts}
use Rattle.spelling.specs.Words.{Word}
use Rattle.spelling.specs.Grammar.{Empty, ◌⨟◌, Sign, Reserved, Named, Num, Commas}
use Rattle.spelling.proofs.Deeper.{Under, itself, under_both, under_bracketed, under_commas, under_where}
use Rattle.p4_expr.specs.Parts.{SpellsHeader}
use Rattle.p4_expr.specs.Expressions.{SpellsExpr}
use Rattle.p4_expr.proofs.ExprDeeper.{index_deeper, no_arguments_deeper, lval_deeper, register_deeper, expr_deeper}
use Rattle.p4_statements.specs.Statements.{SpellsValidity, SpellsPlain, SpellsPlains, SpellsStage, SpellsCondition, SpellsTurns, SpellsCall, SpellsApply, SpellsStmt, SpellsStmts, SpellsBranch}

pub plain_deeper : (depth more : ℕ) (stmt : PlainStmt) → depth ≤ more → Under (SpellsPlain depth stmt) (SpellsPlain more stmt)
plain_deeper depth more (PlainStmt.Assign to value) le = under_both (lval_deeper depth more to le) (under_both (itself (Sign (codes "="))) (under_both (expr_deeper depth more value le) (itself (Sign (codes ";")))))
plain_deeper depth more (PlainStmt.Read to register cell) le =
    under_both (lval_deeper depth more to le) (under_both (itself (Sign (codes "="))) (under_both (register_deeper depth more register le) (under_both (itself (Sign (codes "."))) (under_both (itself (Named (codes "read")))
    (under_both (under_bracketed (codes "(") (codes ")") depth more (λ inner. SpellsExpr inner cell) (λ inner. SpellsExpr inner cell) le (λ i j k. expr_deeper i j cell k)) (itself (Sign (codes ";"))))))))
plain_deeper depth more (PlainStmt.Write register cell value) le =
    under_both (register_deeper depth more register le) (under_both (itself (Sign (codes "."))) (under_both (itself (Named (codes "write")))
    (under_both (under_bracketed (codes "(") (codes ")") depth more (λ inner. SpellsExpr inner cell ⨟ Sign (codes ",") ⨟ SpellsExpr inner value) (λ inner. SpellsExpr inner cell ⨟ Sign (codes ",") ⨟ SpellsExpr inner value) le (λ i j k. under_both (expr_deeper i j cell k) (under_both (itself (Sign (codes ","))) (expr_deeper i j value k)))) (itself (Sign (codes ";"))))))
plain_deeper depth more (PlainStmt.Valid header on) le =
    under_both (itself (SpellsHeader header)) (under_both (itself (Sign (codes "."))) (under_both (itself (SpellsValidity on)) (under_both (no_arguments_deeper depth more le) (itself (Sign (codes ";"))))))
plain_deeper depth more other le = λ ws h. absurd h

pub plains_deeper : (depth more : ℕ) (stmts : PlainStmts) → depth ≤ more → Under (SpellsPlains depth stmts) (SpellsPlains more stmts)
plains_deeper depth more PlainStmts.nil le = itself Empty
plains_deeper depth more (PlainStmts.cons stmt stmts) le = under_both (plain_deeper depth more stmt le) (plains_deeper depth more stmts le)

pub stage_deeper : (depth more : ℕ) (stage : Option ℕ) → depth ≤ more → Under (SpellsStage depth stage) (SpellsStage more stage)
stage_deeper depth more None le = itself Empty
stage_deeper depth more (Some stage) le = under_where (under_both (itself (Sign (codes "@"))) (under_both (itself (Named (codes "stage"))) (under_bracketed (codes "(") (codes ")") depth more (λ _. Num stage) (λ _. Num stage) le (λ i j k. itself (Num stage)))))

pub condition_deeper : (depth more : ℕ) (condition : PlainExpr) → depth ≤ more → Under (SpellsCondition depth condition) (SpellsCondition more condition)
condition_deeper depth more condition le = under_both (itself (Reserved (codes "if"))) (under_bracketed (codes "(") (codes ")") depth more (λ inner. SpellsExpr inner condition) (λ inner. SpellsExpr inner condition) le (λ i j k. expr_deeper i j condition k))

pub turns_deeper : (depth more : ℕ) (index size : Name) → depth ≤ more → Under (SpellsTurns depth index size) (SpellsTurns more index size)
turns_deeper depth more index size le =
    let range = Named index ⨟ Sign (codes "<") ⨟ Named size in
    under_both (itself (Reserved (codes "for"))) (under_bracketed (codes "(") (codes ")") depth more (λ _. range) (λ _. range) le (λ i j k. itself range))

pub call_deeper : (depth more : ℕ) (action : Name) (index : Option Name) (arguments : List PlainExpr) → depth ≤ more → Under (SpellsCall depth action index arguments) (SpellsCall more action index arguments)
call_deeper depth more action index arguments le =
    under_both (itself (Named action)) (under_both (index_deeper index le)
    (under_both (under_bracketed (codes "(") (codes ")") depth more (λ inner. Commas (SpellsExpr inner) arguments) (λ inner. Commas (SpellsExpr inner) arguments) le (λ i j k. under_commas (SpellsExpr i) (SpellsExpr j) (λ e. expr_deeper i j e k) arguments)) (itself (Sign (codes ";")))))

pub apply_deeper : (depth more : ℕ) (table : Name) → depth ≤ more → Under (SpellsApply depth table) (SpellsApply more table)
apply_deeper depth more table le = under_both (itself (Named table)) (under_both (itself (Sign (codes "."))) (under_both (itself (Named (codes "apply"))) (under_both (no_arguments_deeper depth more le) (itself (Sign (codes ";"))))))

mutual
  pub stmt_deeper : {depth : ℕ} {open_end : Bool} {stmt : PlainStmt} {ws : List Word} (more : ℕ) → depth ≤ more → SpellsStmt depth open_end stmt ws → SpellsStmt more open_end stmt ws
  stmt_deeper zero le (SpellsStmt.block front opening inside closing s o h c e) = absurd (omega (arith, le))
  stmt_deeper (suc more) le (SpellsStmt.block {depth = depth} {stage = stage} front opening inside closing s o h c e) =
      SpellsStmt.block front opening inside closing (stage_deeper (suc depth) (suc more) stage le front s) o (stmts_deeper more (omega (arith, le)) h) c e
  stmt_deeper {depth = depth} more le (SpellsStmt.without_else {condition = condition} front back c b e) =
      SpellsStmt.without_else front back (condition_deeper depth more condition le front c) (branch_deeper more le b) e
  stmt_deeper {depth = depth} more le (SpellsStmt.with_else {condition = condition} front first between second c f i s e) =
      SpellsStmt.with_else front first between second (condition_deeper depth more condition le front c) (branch_deeper more le f) i (branch_deeper more le s) e
  stmt_deeper zero le (SpellsStmt.repeated front opening inside closing t o h c e) = absurd (omega (arith, le))
  stmt_deeper (suc more) le (SpellsStmt.repeated {depth = depth} {index = index} {size = size} front opening inside closing t o h c e) =
      SpellsStmt.repeated front opening inside closing (turns_deeper (suc depth) (suc more) index size le front t) o (stmts_deeper more (omega (arith, le)) h) c e
  stmt_deeper {depth = depth} {ws = ws} more le (SpellsStmt.called {action = action} {index = index} {arguments = arguments} h) = SpellsStmt.called (call_deeper depth more action index arguments le ws h)
  stmt_deeper {depth = depth} {ws = ws} more le (SpellsStmt.applied {table = table} h) = SpellsStmt.applied (apply_deeper depth more table le ws h)
  stmt_deeper {depth = depth} {stmt = stmt} {ws = ws} more le (SpellsStmt.simple h) = SpellsStmt.simple (plain_deeper depth more stmt le ws h)

  pub stmts_deeper : {depth : ℕ} {stmts : PlainStmts} {ws : List Word} (more : ℕ) → depth ≤ more → SpellsStmts depth stmts ws → SpellsStmts more stmts ws
  stmts_deeper more le SpellsStmts.no_more = SpellsStmts.no_more
  stmts_deeper more le (SpellsStmts.one_more front back f b e) = SpellsStmts.one_more front back (stmt_deeper more le f) (stmts_deeper more le b) e

  pub branch_deeper : {depth : ℕ} {open_end : Bool} {stmts : PlainStmts} {ws : List Word} (more : ℕ) → depth ≤ more → SpellsBranch depth open_end stmts ws → SpellsBranch more open_end stmts ws
  branch_deeper zero le (SpellsBranch.in_brackets opening inside closing o h c e) = absurd (omega (arith, le))
  branch_deeper (suc more) le (SpellsBranch.in_brackets opening inside closing o h c e) = SpellsBranch.in_brackets opening inside closing o (stmts_deeper more (omega (arith, le)) h) c e
  branch_deeper zero le (SpellsBranch.alone other h) = absurd (omega (arith, le))
  branch_deeper (suc more) le (SpellsBranch.alone other h) = SpellsBranch.alone other (stmt_deeper more (omega (arith, le)) h)
