-- A statement opens no more brackets than its depth allows, and closes those that it opens.
use Rattle.spelling.proofs.Limits.{inside}
use Rattle.std.proofs.Common.{ℕ, suc, Bool, true, false, List, Option, None, Some, codes, refl, sym, subst, arith}
use Rattle.elastic_ast.specs.Tree.{Name, PlainExpr, PlainStmt, PlainStmts}
use Rattle.spelling.specs.Words.{Word}
use Rattle.spelling.specs.Grammar.{◌⨟◌, Sign, Named, Num, Commas}
use Rattle.spelling.proofs.Balance.{Within, Stays, both_within, deeper_within, enclosed, enclosed_after, none_within, stays_empty, stays_sign, stays_reserved, stays_named, stays_both, stays_where, stays_round, stays_commas}
use Rattle.p4_expr.proofs.PartsWithin.{num_stays, index_stays, header_stays, no_arguments_stays, lval_stays, register_stays}
use Rattle.p4_expr.specs.Expressions.{SpellsExpr}
use Rattle.p4_expr.proofs.ExprWithin.{expr_within}
use Rattle.p4_statements.specs.Statements.{SpellsValidity, SpellsPlain, SpellsPlains, SpellsStage, SpellsCondition, SpellsTurns, SpellsCall, SpellsApply, SpellsStmt, SpellsStmts, SpellsBranch}

pub validity_stays : {depth : ℕ} (on : Bool) → Stays depth (SpellsValidity on)
validity_stays true = stays_named (codes "setValid")
validity_stays false = stays_named (codes "setInvalid")

pub plain_stays : (depth : ℕ) (stmt : PlainStmt) → Stays depth (SpellsPlain depth stmt)
plain_stays depth (PlainStmt.Assign to value) = stays_both (lval_stays depth to) (stays_both (stays_sign (codes "=") refl refl) (stays_both expr_within (stays_sign (codes ";") refl refl)))
plain_stays depth (PlainStmt.Read to register cell) = stays_both (lval_stays depth to) (stays_both (stays_sign (codes "=") refl refl) (stays_both (register_stays depth register) (stays_both (stays_sign (codes ".") refl refl) (stays_both (stays_named (codes "read")) (stays_both (stays_round depth (λ inner. SpellsExpr inner cell) (λ inner. expr_within)) (stays_sign (codes ";") refl refl))))))
plain_stays depth (PlainStmt.Write register cell value) = stays_both (register_stays depth register) (stays_both (stays_sign (codes ".") refl refl) (stays_both (stays_named (codes "write")) (stays_both (stays_round depth (λ inner. SpellsExpr inner cell ⨟ Sign (codes ",") ⨟ SpellsExpr inner value) (λ inner. stays_both expr_within (stays_both (stays_sign (codes ",") refl refl) expr_within))) (stays_sign (codes ";") refl refl))))
plain_stays depth (PlainStmt.Valid header on) = stays_both (header_stays header) (stays_both (stays_sign (codes ".") refl refl) (stays_both (validity_stays on) (stays_both (no_arguments_stays depth) (stays_sign (codes ";") refl refl))))
plain_stays depth _ = λ ws h. absurd h

pub plains_stay : (depth : ℕ) (stmts : PlainStmts) → Stays depth (SpellsPlains depth stmts)
plains_stay depth PlainStmts.nil = stays_empty
plains_stay depth (PlainStmts.cons stmt stmts) = stays_both (plain_stays depth stmt) (plains_stay depth stmts)

pub stage_stays : (depth : ℕ) (stage : Option ℕ) → Stays depth (SpellsStage depth stage)
stage_stays depth None = stays_empty
stage_stays depth (Some stage) = stays_where (stays_both (stays_sign (codes "@") refl refl) (stays_both (stays_named (codes "stage")) (stays_round depth (λ _. Num stage) (λ _. num_stays stage))))

pub condition_stays : (depth : ℕ) (condition : PlainExpr) → Stays depth (SpellsCondition depth condition)
condition_stays depth condition = stays_both (stays_reserved (codes "if")) (stays_round depth (λ inner. SpellsExpr inner condition) (λ inner. expr_within))

pub turns_stay : (depth : ℕ) (index size : Name) → Stays depth (SpellsTurns depth index size)
turns_stay depth index size = stays_both (stays_reserved (codes "for")) (stays_round depth (λ _. Named index ⨟ Sign (codes "<") ⨟ Named size) (λ _. stays_both (stays_named index) (stays_both (stays_sign (codes "<") refl refl) (stays_named size))))

pub call_stays : (depth : ℕ) (action : Name) (index : Option Name) (arguments : List PlainExpr) → Stays depth (SpellsCall depth action index arguments)
call_stays depth action index arguments = stays_both (stays_named action) (stays_both (index_stays depth index) (stays_both (stays_round depth (λ inner. Commas (SpellsExpr inner) arguments) (λ inner. stays_commas (SpellsExpr inner) (λ e. expr_within) arguments)) (stays_sign (codes ";") refl refl)))

pub apply_stays : (depth : ℕ) (table : Name) → Stays depth (SpellsApply depth table)
apply_stays depth table = stays_both (stays_named table) (stays_both (stays_sign (codes ".") refl refl) (stays_both (stays_named (codes "apply")) (stays_both (no_arguments_stays depth) (stays_sign (codes ";") refl refl))))

mutual
  pub stmt_within : {depth : ℕ} {open_end : Bool} {stmt : PlainStmt} {ws : List Word} → SpellsStmt depth open_end stmt ws → Within depth ws
  stmt_within (SpellsStmt.block {depth = depth} {stage = stage} front opening inside closing s o h c e) =
      subst (Within (suc depth)) (sym e) (enclosed_after (codes "{") (codes "}") refl refl refl (stage_stays (suc depth) stage front s) o (stmts_within h) c)
  stmt_within {depth = depth} (SpellsStmt.without_else {condition = condition} front back c b e) =
      subst (Within depth) (sym e) (both_within (condition_stays depth condition front c) (branch_within b))
  stmt_within {depth = depth} (SpellsStmt.with_else {condition = condition} front first between second c f i s e) =
      subst (Within depth) (sym e) (both_within (both_within (both_within (condition_stays depth condition front c) (branch_within f)) (stays_reserved (codes "else") between i)) (branch_within s))
  stmt_within (SpellsStmt.repeated {depth = depth} {index = index} {size = size} front opening inside closing t o h c e) =
      subst (Within (suc depth)) (sym e) (enclosed_after (codes "{") (codes "}") refl refl refl (turns_stay (suc depth) index size front t) o (stmts_within h) c)
  stmt_within {depth = depth} {ws = ws} (SpellsStmt.called {action = action} {index = index} {arguments = arguments} h) = call_stays depth action index arguments ws h
  stmt_within {depth = depth} {ws = ws} (SpellsStmt.applied {table = table} h) = apply_stays depth table ws h
  stmt_within {depth = depth} {stmt = stmt} {ws = ws} (SpellsStmt.simple h) = plain_stays depth stmt ws h

  pub stmts_within : {depth : ℕ} {stmts : PlainStmts} {ws : List Word} → SpellsStmts depth stmts ws → Within depth ws
  stmts_within {depth = depth} SpellsStmts.no_more = none_within depth
  stmts_within {depth = depth} (SpellsStmts.one_more front back f b e) = subst (Within depth) (sym e) (both_within (stmt_within f) (stmts_within b))

  pub branch_within : {depth : ℕ} {open_end : Bool} {stmts : PlainStmts} {ws : List Word} → SpellsBranch depth open_end stmts ws → Within depth ws
  branch_within (SpellsBranch.in_brackets {depth = depth} opening inside closing o h c e) =
      subst (Within (suc depth)) (sym e) (enclosed (codes "{") (codes "}") refl refl refl o (stmts_within h) c)
  branch_within (SpellsBranch.alone other h) = deeper_within (omega arith) (stmt_within h)
