-- The plain tree that a tree of a program shows, this project's own: its parts without their places in memory.
use Rattle.std.specs.Prelude.{List, [], ◌∷◌, map, Some, None, option_map}
use Rattle.elastic_ast.specs.declared.statements.Expr.{Expr}
use Rattle.elastic_ast.specs.declared.statements.Expr.TheOpen.{Expr-F}
use Rattle.elastic_ast.specs.declared.statements.Expr.TheFolds.{fold-Expr}
use Rattle.elastic_ast.specs.declared.statements.Stmt.{Stmt}
use Rattle.elastic_ast.specs.declared.statements.Stmt.TheOpen.{Stmt-F}
use Rattle.elastic_ast.specs.declared.statements.Stmt.TheFolds.{fold-Stmt}
use Rattle.elastic_ast.specs.declared.declarations.Keyset.{Keyset}
use Rattle.elastic_ast.specs.declared.declarations.Keyset.TheVariants as keyset
use Rattle.elastic_ast.specs.declared.declarations.Entry.{Entry}
use Rattle.elastic_ast.specs.declared.declarations.Table.{Table}
use Rattle.elastic_ast.specs.declared.declarations.Action.{Action}
use Rattle.elastic_ast.specs.declared.declarations.Local.{Local}
use Rattle.elastic_ast.specs.declared.declarations.Local.TheVariants as local
use Rattle.elastic_ast.specs.declared.declarations.Next.{Next}
use Rattle.elastic_ast.specs.declared.declarations.Next.TheVariants as next
use Rattle.elastic_ast.specs.declared.declarations.State.{State}
use Rattle.elastic_ast.specs.declared.declarations.Decl.{Decl}
use Rattle.elastic_ast.specs.declared.declarations.Decl.TheVariants as decl
use Rattle.elastic_ast.specs.declared.declarations.Program.{Program}
use Rattle.elastic_ast.specs.Tree.{Name, PlainExpr, PlainStmt, PlainStmts, PlainKeyset, PlainEntry, PlainAction, PlainTable, PlainLocal, PlainNext, PlainState, PlainDecl, PlainProgram}

abbrev pub expr_step : Expr-F PlainExpr → PlainExpr
expr_step (Expr-F.Num w v) = PlainExpr.Num w v
expr_step (Expr-F.Bool b) = PlainExpr.Truth b
expr_step (Expr-F.Named n) = PlainExpr.Named n
expr_step (Expr-F.Field l) = PlainExpr.At l
expr_step (Expr-F.IsValid h) = PlainExpr.IsValid h
expr_step (Expr-F.Unary op a) = PlainExpr.Unary op a.value
expr_step (Expr-F.Binary op a b) = PlainExpr.Binary op a.value b.value
expr_step (Expr-F.Cast w a) = PlainExpr.Cast w a.value
expr_step (Expr-F.Slice a high low) = PlainExpr.Slice a.value high low
expr_step (Expr-F.Hash k a m) = PlainExpr.Hash k a.value m

unfoldable pub seen_expr : Expr → PlainExpr
seen_expr = fold-Expr PlainExpr expr_step

abbrev pub seen_exprs : List Expr → List PlainExpr
seen_exprs = map seen_expr

abbrev pub joined : List PlainStmt → PlainStmts
joined [] = PlainStmts.nil
joined (s ∷ ss) = PlainStmts.cons s (joined ss)

abbrev pub stmt_step : Stmt-F PlainStmt → PlainStmt
stmt_step (Stmt-F.Block stage body) = PlainStmt.Block stage (joined body)
stmt_step (Stmt-F.If c a (Some b)) = PlainStmt.IfElse (seen_expr c) (joined a) (joined b)
stmt_step (Stmt-F.If c a None) = PlainStmt.If (seen_expr c) (joined a)
stmt_step (Stmt-F.For i n body) = PlainStmt.For i n (joined body)
stmt_step (Stmt-F.Assign x e) = PlainStmt.Assign x (seen_expr e)
stmt_step (Stmt-F.Read x r e) = PlainStmt.Read x r (seen_expr e)
stmt_step (Stmt-F.Write r c e) = PlainStmt.Write r (seen_expr c) (seen_expr e)
stmt_step (Stmt-F.Valid h on) = PlainStmt.Valid h on
stmt_step (Stmt-F.Call a i es) = PlainStmt.Call a i (seen_exprs es)
stmt_step (Stmt-F.Apply t) = PlainStmt.Apply t

unfoldable pub seen_stmt : Stmt → PlainStmt
seen_stmt = fold-Stmt PlainStmt stmt_step

abbrev pub seen_stmts : List Stmt → PlainStmts
seen_stmts ss = joined (map seen_stmt ss)

abbrev pub seen_keyset : Keyset → PlainKeyset
seen_keyset (keyset.One e) = PlainKeyset.One (seen_expr e)
seen_keyset (keyset.Masked v m) = PlainKeyset.Masked (seen_expr v) (seen_expr m)
seen_keyset keyset.Any = PlainKeyset.Any

abbrev pub seen_entry : Entry → PlainEntry
seen_entry e = record { keys = map seen_keyset e.keys; action = e.action; args = seen_exprs e.args }

abbrev pub seen_action : Action → PlainAction
seen_action a = record { name = a.name; index = a.index; params = a.params; body = seen_stmts a.body }

abbrev pub seen_table : Table → PlainTable
seen_table t = record { name = t.name; keys = t.keys; actions = t.actions; entries = map seen_entry t.entries; fallback = option_map (λ f. (f.0, seen_exprs f.1)) t.fallback; size = t.size }

abbrev pub seen_local : Local → PlainLocal
seen_local (local.Action a) = PlainLocal.OfAction (seen_action a)
seen_local (local.Table t) = PlainLocal.OfTable (seen_table t)

abbrev pub seen_case : Keyset × Name → PlainKeyset × Name
seen_case c = (seen_keyset c.0, c.1)

abbrev pub seen_next : Next → PlainNext
seen_next (next.To n) = PlainNext.To n
seen_next (next.Select e cs) = PlainNext.Select (seen_expr e) (map seen_case cs)

abbrev pub seen_state : State → PlainState
seen_state s = record { name = s.name; extracts = s.extracts; next = seen_next s.next }

abbrev pub seen_decl : Decl → PlainDecl
seen_decl (decl.Include n) = PlainDecl.Include n
seen_decl (decl.Symbol n) = PlainDecl.Symbol n
seen_decl (decl.Assume cs) = PlainDecl.Assume cs
seen_decl (decl.Maximize ts) = PlainDecl.Maximize ts
seen_decl (decl.Const n w v) = PlainDecl.Const n w v
seen_decl (decl.Header n fs) = PlainDecl.Header n fs
seen_decl (decl.Headers ms) = PlainDecl.Headers ms
seen_decl (decl.Meta fs) = PlainDecl.Meta fs
seen_decl (decl.Register n w c s) = PlainDecl.Register n w c s
seen_decl (decl.Parser n ss) = PlainDecl.Parser n (map seen_state ss)
seen_decl (decl.Control n ls b) = PlainDecl.Control n (map seen_local ls) (seen_stmts b)
seen_decl (decl.Deparser n es) = PlainDecl.Deparser n es
seen_decl (decl.Main p c d) = PlainDecl.Main p c d

abbrev pub seen_decls : List Decl → List PlainDecl
seen_decls = map seen_decl

abbrev pub seen_program : Program → PlainProgram
seen_program program = seen_decls program.decls
