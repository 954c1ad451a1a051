-- What each form of expression and statement shows, one equation a form; this project's own.
use Rattle.std.specs.Prelude.{◌≡◌, ℕ, Bool, List, Option, Some, None}
use Rattle.std.specs.declared.boxed.Box.{Box}
use Rattle.std.specs.declared.alloc.Global.{Global}
use Rattle.elastic_ast.specs.declared.statements.Amount.{Amount}
use Rattle.elastic_ast.specs.declared.statements.Lval.{Lval}
use Rattle.elastic_ast.specs.declared.statements.RegRef.{RegRef}
use Rattle.elastic_ast.specs.declared.statements.Expr.{Expr}
use Rattle.elastic_ast.specs.declared.statements.Expr.TheVariants as expr
use Rattle.elastic_ast.specs.declared.statements.Expr.TheOpen.{Expr-F}
use Rattle.elastic_ast.specs.declared.statements.Expr.TheViews.{roll-Expr}
use Rattle.elastic_ast.specs.declared.statements.Expr.TheFolds.{fold-roll-Expr}
use Rattle.elastic_ast.specs.declared.statements.Stmt.{Stmt}
use Rattle.elastic_ast.specs.declared.statements.Stmt.TheVariants as stmt
use Rattle.elastic_ast.specs.declared.statements.Stmt.TheOpen.{Stmt-F}
use Rattle.elastic_ast.specs.declared.statements.Stmt.TheViews.{roll-Stmt}
use Rattle.elastic_ast.specs.declared.statements.Stmt.TheFolds.{fold-roll-Stmt}
use Rattle.elastic_ast.specs.Tree.{PlainExpr, PlainStmt}
use Rattle.elastic_ast.specs.Seen.{expr_step, seen_expr, seen_exprs, stmt_step, seen_stmt, seen_stmts}

pub seen_expr-num : (w : Option ℕ) (v : ℕ) → seen_expr (expr.Num w v) ≡ PlainExpr.Num w v
unfolding seen_expr roll-Expr denote.Hole.Carrier.roll
seen_expr-num w v = fold-roll-Expr PlainExpr expr_step (Expr-F.Num w v)

pub seen_expr-bool : (b : Bool) → seen_expr (expr.Bool b) ≡ PlainExpr.Truth b
unfolding seen_expr roll-Expr denote.Hole.Carrier.roll
seen_expr-bool b = fold-roll-Expr PlainExpr expr_step (Expr-F.Bool b)

pub seen_expr-named : (n : List ℕ) → seen_expr (expr.Named n) ≡ PlainExpr.Named n
unfolding seen_expr roll-Expr denote.Hole.Carrier.roll
seen_expr-named n = fold-roll-Expr PlainExpr expr_step (Expr-F.Named n)

pub seen_expr-field : (l : Lval) → seen_expr (expr.Field l) ≡ PlainExpr.At l
unfolding seen_expr roll-Expr denote.Hole.Carrier.roll
seen_expr-field l = fold-roll-Expr PlainExpr expr_step (Expr-F.Field l)

pub seen_expr-valid : (h : List ℕ) → seen_expr (expr.IsValid h) ≡ PlainExpr.IsValid h
unfolding seen_expr roll-Expr denote.Hole.Carrier.roll
seen_expr-valid h = fold-roll-Expr PlainExpr expr_step (Expr-F.IsValid h)

pub seen_expr-unary : (op : ℕ) (a : Box Expr Global) → seen_expr (expr.Unary op a) ≡ PlainExpr.Unary op (seen_expr a.value)
unfolding seen_expr roll-Expr denote.Hole.Carrier.roll
seen_expr-unary op a = fold-roll-Expr PlainExpr expr_step (Expr-F.Unary op a)

pub seen_expr-binary : (op : ℕ) (a : Box Expr Global) (b : Box Expr Global) → seen_expr (expr.Binary op a b) ≡ PlainExpr.Binary op (seen_expr a.value) (seen_expr b.value)
unfolding seen_expr roll-Expr denote.Hole.Carrier.roll
seen_expr-binary op a b = fold-roll-Expr PlainExpr expr_step (Expr-F.Binary op a b)

pub seen_expr-cast : (w : ℕ) (a : Box Expr Global) → seen_expr (expr.Cast w a) ≡ PlainExpr.Cast w (seen_expr a.value)
unfolding seen_expr roll-Expr denote.Hole.Carrier.roll
seen_expr-cast w a = fold-roll-Expr PlainExpr expr_step (Expr-F.Cast w a)

pub seen_expr-slice : (a : Box Expr Global) (high : ℕ) (low : ℕ) → seen_expr (expr.Slice a high low) ≡ PlainExpr.Slice (seen_expr a.value) high low
unfolding seen_expr roll-Expr denote.Hole.Carrier.roll
seen_expr-slice a high low = fold-roll-Expr PlainExpr expr_step (Expr-F.Slice a high low)

pub seen_expr-hash : (k : Amount) (a : Box Expr Global) (m : Amount) → seen_expr (expr.Hash k a m) ≡ PlainExpr.Hash k (seen_expr a.value) m
unfolding seen_expr roll-Expr denote.Hole.Carrier.roll
seen_expr-hash k a m = fold-roll-Expr PlainExpr expr_step (Expr-F.Hash k a m)

pub seen_stmt-block : (g : Option ℕ) (ss : List Stmt) → seen_stmt (stmt.Block g ss) ≡ PlainStmt.Block g (seen_stmts ss)
unfolding seen_stmt roll-Stmt denote.Hole.Carrier.roll
seen_stmt-block g ss = fold-roll-Stmt PlainStmt stmt_step (Stmt-F.Block g ss)

pub seen_stmt-if : (e : Expr) (a : List Stmt) → seen_stmt (stmt.If e a None) ≡ PlainStmt.If (seen_expr e) (seen_stmts a)
unfolding seen_stmt roll-Stmt denote.Hole.Carrier.roll
seen_stmt-if e a = fold-roll-Stmt PlainStmt stmt_step (Stmt-F.If e a None)

pub seen_stmt-if_else : (e : Expr) (a : List Stmt) (b : List Stmt) → seen_stmt (stmt.If e a (Some b)) ≡ PlainStmt.IfElse (seen_expr e) (seen_stmts a) (seen_stmts b)
unfolding seen_stmt roll-Stmt denote.Hole.Carrier.roll
seen_stmt-if_else e a b = fold-roll-Stmt PlainStmt stmt_step (Stmt-F.If e a (Some b))

pub seen_stmt-for : (i : List ℕ) (n : List ℕ) (a : List Stmt) → seen_stmt (stmt.For i n a) ≡ PlainStmt.For i n (seen_stmts a)
unfolding seen_stmt roll-Stmt denote.Hole.Carrier.roll
seen_stmt-for i n a = fold-roll-Stmt PlainStmt stmt_step (Stmt-F.For i n a)

pub seen_stmt-assign : (x : Lval) (e : Expr) → seen_stmt (stmt.Assign x e) ≡ PlainStmt.Assign x (seen_expr e)
unfolding seen_stmt roll-Stmt denote.Hole.Carrier.roll
seen_stmt-assign x e = fold-roll-Stmt PlainStmt stmt_step (Stmt-F.Assign x e)

pub seen_stmt-read : (x : Lval) (r : RegRef) (e : Expr) → seen_stmt (stmt.Read x r e) ≡ PlainStmt.Read x r (seen_expr e)
unfolding seen_stmt roll-Stmt denote.Hole.Carrier.roll
seen_stmt-read x r e = fold-roll-Stmt PlainStmt stmt_step (Stmt-F.Read x r e)

pub seen_stmt-write : (r : RegRef) (c : Expr) (e : Expr) → seen_stmt (stmt.Write r c e) ≡ PlainStmt.Write r (seen_expr c) (seen_expr e)
unfolding seen_stmt roll-Stmt denote.Hole.Carrier.roll
seen_stmt-write r c e = fold-roll-Stmt PlainStmt stmt_step (Stmt-F.Write r c e)

pub seen_stmt-valid : (h : List ℕ) (on : Bool) → seen_stmt (stmt.Valid h on) ≡ PlainStmt.Valid h on
unfolding seen_stmt roll-Stmt denote.Hole.Carrier.roll
seen_stmt-valid h on = fold-roll-Stmt PlainStmt stmt_step (Stmt-F.Valid h on)

pub seen_stmt-call : (a : List ℕ) (i : Option (List ℕ)) (es : List Expr) → seen_stmt (stmt.Call a i es) ≡ PlainStmt.Call a i (seen_exprs es)
unfolding seen_stmt roll-Stmt denote.Hole.Carrier.roll
seen_stmt-call a i es = fold-roll-Stmt PlainStmt stmt_step (Stmt-F.Call a i es)

pub seen_stmt-apply : (t : List ℕ) → seen_stmt (stmt.Apply t) ≡ PlainStmt.Apply t
unfolding seen_stmt roll-Stmt denote.Hole.Carrier.roll
seen_stmt-apply t = fold-roll-Stmt PlainStmt stmt_step (Stmt-F.Apply t)

pub ruleset seen = (seen_expr-num, seen_expr-bool, seen_expr-named, seen_expr-field, seen_expr-valid, seen_expr-unary, seen_expr-binary, seen_expr-cast, seen_expr-slice, seen_expr-hash, seen_stmt-block, seen_stmt-if, seen_stmt-if_else, seen_stmt-for, seen_stmt-assign, seen_stmt-read, seen_stmt-write, seen_stmt-valid, seen_stmt-call, seen_stmt-apply)
