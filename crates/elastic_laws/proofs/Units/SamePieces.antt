-- The pieces of statements, in order, do what the statements do.
use Rattle.std.proofs.Common.{◌≡◌, ℕ, not, Bool, true, List, [], ◌∷◌, ◌++◌, Option, Some, None, refl, ap, ap₂, ◌∙◌}
use Rattle.std.proofs.lemmas.Bool.{not-true}
use Rattle.elastic_ast.specs.declared.flat.Location.TheVariants as location
use Rattle.elastic_ast.specs.declared.statements.Lval.{Lval}
use Rattle.elastic_ast.specs.declared.statements.Lval.TheVariants as lval
use Rattle.elastic_ast.specs.declared.declarations.Key.{Key}
use Rattle.elastic_ast.specs.Tree.{PlainDecl, PlainExpr, PlainStmt, PlainStmts, PlainKeyset, PlainEntry, PlainAction, PlainTable}
use Rattle.elastic_ast.specs.Typing.Scope.{or_else}
use Rattle.elastic_ast.specs.Containers.LocationPlaces.{place}
use Rattle.elastic_ast.specs.Typing.LookUps.{action_of, table_of}
use Rattle.elastic_ast.specs.Meaning.Memory.{Spot, At, Memory, Writes, written_or, over}
use Rattle.elastic_ast.specs.Meaning.Values.{Setting, holds}
use Rattle.elastic_ast.specs.Meaning.Matches.{Run, chosen}
use Rattle.elastic_ast.specs.Meaning.Written.{outside, inside, assigned, plain_writes, body_writes, arguments, action_writes, run_writes, table_writes, leaf_writes}
use Rattle.elastic_ast.specs.Units.Reach.{location_of, register_location, expr_reads, exprs_read, plain_reads, body_reads, action_reads, set_reads, sets_read, keys_read}
use Rattle.elastic_laws.specs.Units.Footprints.{spot_of, Agree}
use Rattle.elastic_laws.specs.Units.CutMeaning.{is_predicate, Same}
use Rattle.elastic_laws.proofs.Units.Depends.{Within, within_both, holds_depends, RunWithin, EntriesWithin, TableWithin, LeafWithin, leaf_depends}

pub same_refl : (s : Memory) → Same s s
same_refl s = record { elsewhere = λ l h. refl }

pub same_trans : (s t u : Memory) → Same s t → Same t u → Same s u
same_trans s t u a b = record { elsewhere = λ l h. a.elsewhere l h ∙ b.elsewhere l h }

pub same_over : (d e : Writes) (s t : Memory) → d ≡ e → Same s t → Same (over d s) (over e t)
same_over d e s t h a = record { elsewhere = λ l p. ap₂ written_or (ap (λ w. w l) h) (a.elsewhere l p) }

-- predicates stand in no expression
abbrev lasting : Spot → Bool
lasting l = not (is_predicate l)

agree : (s t : Memory) → Same s t → Agree lasting s t
agree s t a l e = a.elsewhere l (not-true (is_predicate l) e)

lval_lasts : (l : Lval) (i : Option ℕ) → lasting (spot_of (location_of l) i) ≡ true
lval_lasts (lval.Header h f) i = refl
lval_lasts (lval.Meta n None) i = refl
lval_lasts (lval.Meta n (Some k)) i = refl
lval_lasts (lval.Std n) i = refl

expr_lasts : (e : PlainExpr) (i : Option ℕ) → Within lasting i (expr_reads e)
expr_lasts (PlainExpr.At l) i = (lval_lasts l i, tt)
expr_lasts (PlainExpr.IsValid h) i = (refl, tt)
expr_lasts (PlainExpr.Unary op a) i = expr_lasts a i
expr_lasts (PlainExpr.Binary op a b) i = within_both lasting i (expr_reads a) (expr_reads b) (expr_lasts a i) (expr_lasts b i)
expr_lasts (PlainExpr.Cast w a) i = expr_lasts a i
expr_lasts (PlainExpr.Slice a high low) i = expr_lasts a i
expr_lasts (PlainExpr.Hash k a m) i = expr_lasts a i
expr_lasts other i = tt

exprs_last : (es : List PlainExpr) (i : Option ℕ) → Within lasting i (exprs_read es)
exprs_last [] i = tt
exprs_last (e ∷ es) i = within_both lasting i (expr_reads e) (exprs_read es) (expr_lasts e i) (exprs_last es i)

plain_lasts : (x : PlainStmt) (i : Option ℕ) → Within lasting i (plain_reads x)
plain_lasts (PlainStmt.Assign to e) i = expr_lasts e i
plain_lasts (PlainStmt.Read to r c) i = within_both lasting i (expr_reads c) (register_location r ∷ []) (expr_lasts c i) (refl, tt)
plain_lasts (PlainStmt.Write r c v) i =
    within_both lasting i (expr_reads c) (expr_reads v ++ register_location r ∷ []) (expr_lasts c i)
    (within_both lasting i (expr_reads v) (register_location r ∷ []) (expr_lasts v i) (refl, tt))
plain_lasts other i = tt

body_lasts : (xs : PlainStmts) (i : Option ℕ) → Within lasting i (body_reads xs)
body_lasts PlainStmts.nil i = tt
body_lasts (PlainStmts.cons x xs) i = within_both lasting i (plain_reads x) (body_reads xs) (plain_lasts x i) (body_lasts xs i)

action_lasts : (o : Option PlainAction) (i : Option ℕ) → Within lasting i (action_reads o)
action_lasts None i = tt
action_lasts (Some action) i = body_lasts action.body i

run_lasts : (decls : List PlainDecl) (o : Option Run) (i : Option ℕ) → RunWithin lasting decls i o
run_lasts decls None i = tt
run_lasts decls (Some run) i = (exprs_last run.1 i, action_lasts (action_of decls run.0) i)

set_lasts : (k : PlainKeyset) (i : Option ℕ) → Within lasting i (set_reads k)
set_lasts (PlainKeyset.One n) i = expr_lasts n i
set_lasts (PlainKeyset.Masked n m) i = within_both lasting i (expr_reads n) (expr_reads m) (expr_lasts n i) (expr_lasts m i)
set_lasts PlainKeyset.Any i = tt

sets_last : (ks : List PlainKeyset) (i : Option ℕ) → Within lasting i (sets_read ks)
sets_last [] i = tt
sets_last (k ∷ ks) i = within_both lasting i (set_reads k) (sets_read ks) (set_lasts k i) (sets_last ks i)

entries_last : (decls : List PlainDecl) (es : List PlainEntry) (i : Option ℕ) → EntriesWithin lasting decls i es
entries_last decls [] i = tt
entries_last decls (e ∷ es) i = (sets_last e.keys i, run_lasts decls (Some (e.action, e.args)) i, entries_last decls es i)

keys_last : (ks : List Key) (i : Option ℕ) → Within lasting i (keys_read ks)
keys_last [] i = tt
keys_last (k ∷ ks) i = (lval_lasts k.field i, keys_last ks i)

table_lasts : (decls : List PlainDecl) (o : Option PlainTable) (i : Option ℕ) → TableWithin lasting decls i o
table_lasts decls None i = tt
table_lasts decls (Some table) i = (keys_last table.keys i, entries_last decls table.entries i, run_lasts decls table.fallback i)

leaf_lasts : (decls : List PlainDecl) (x : PlainStmt) (i : Option ℕ) → LeafWithin lasting decls i x
leaf_lasts decls (PlainStmt.Call n j es) i = run_lasts decls (Some (n, es)) i
leaf_lasts decls (PlainStmt.Apply n) i = table_lasts decls (table_of decls n) i
leaf_lasts decls (PlainStmt.Assign to e) i = plain_lasts (PlainStmt.Assign to e) i
leaf_lasts decls (PlainStmt.Read to r c) i = plain_lasts (PlainStmt.Read to r c) i
leaf_lasts decls (PlainStmt.Write r c v) i = plain_lasts (PlainStmt.Write r c v) i
leaf_lasts decls other i = tt

pub leaf_same : (x : PlainStmt) (decls : List PlainDecl) (sizes : List ℕ) (i : Option ℕ) (s t : Memory) → Same s t → leaf_writes x decls sizes i s ≡ leaf_writes x decls sizes i t
leaf_same x decls sizes i s t a = leaf_depends lasting x decls sizes i s t (leaf_lasts decls x i) (agree s t a)

pub holds_same : (c : PlainExpr) (decls : List PlainDecl) (sizes : List ℕ) (i : Option ℕ) (s t : Memory) → Same s t → holds (outside decls sizes i) s c ≡ holds (outside decls sizes i) t c
holds_same c decls sizes i s t a = holds_depends lasting c (outside decls sizes i) s t (expr_lasts c i) (agree s t a)

-- a leaf writes no predicate
abbrev pub pred_at : ℕ → Bool → Option ℕ → Spot
pred_at m own j = At (place (location.Pred m own) j)

pub assigned_pred : (w : Setting) (to : Lval) (v m : ℕ) (own : Bool) (j : Option ℕ) → assigned w to v (pred_at m own j) ≡ None
assigned_pred w (lval.Header h f) v m own j = refl
assigned_pred w (lval.Meta n None) v m own j = refl
assigned_pred w (lval.Meta n (Some k)) v m own j = refl
assigned_pred w (lval.Std n) v m own j = refl

plain_pred : (x : PlainStmt) (w : Setting) (s : Memory) (m : ℕ) (own : Bool) (j : Option ℕ) → plain_writes w s x (pred_at m own j) ≡ None
plain_pred (PlainStmt.Assign to e) w s m own j = assigned_pred w to _ m own j
plain_pred (PlainStmt.Read to r c) w s m own j = assigned_pred w to _ m own j
plain_pred other w s m own j = refl

body_pred : (xs : PlainStmts) (w : Setting) (s : Memory) (m : ℕ) (own : Bool) (j : Option ℕ) → body_writes w s xs (pred_at m own j) ≡ None
body_pred PlainStmts.nil w s m own j = refl
body_pred (PlainStmts.cons x xs) w s m own j =
    ap₂ (λ a b. or_else a b) (body_pred xs w (over (plain_writes w s x) s) m own j) (plain_pred x w s m own j)

action_pred : (o : Option PlainAction) (es : List PlainExpr) (w : Setting) (s : Memory) (m : ℕ) (own : Bool) (j : Option ℕ) → action_writes w s es o (pred_at m own j) ≡ None
action_pred None es w s m own j = refl
action_pred (Some action) es w s m own j = body_pred action.body (inside w action.params (arguments w s action.params es)) s m own j

run_pred : (o : Option Run) (w : Setting) (s : Memory) (m : ℕ) (own : Bool) (j : Option ℕ) → run_writes w s o (pred_at m own j) ≡ None
run_pred None w s m own j = refl
run_pred (Some run) w s m own j = action_pred (action_of w.decls run.0) run.1 w s m own j

table_pred : (o : Option PlainTable) (w : Setting) (s : Memory) (m : ℕ) (own : Bool) (j : Option ℕ) → table_writes w s o (pred_at m own j) ≡ None
table_pred None w s m own j = refl
table_pred (Some table) w s m own j = run_pred (chosen w s table) w s m own j

pub leaf_pred : (x : PlainStmt) (decls : List PlainDecl) (sizes : List ℕ) (i : Option ℕ) (s : Memory) (m : ℕ) (own : Bool) (j : Option ℕ) → leaf_writes x decls sizes i s (pred_at m own j) ≡ None
leaf_pred (PlainStmt.Call n k es) decls sizes i s m own j = run_pred (Some (n, es)) (outside decls sizes i) s m own j
leaf_pred (PlainStmt.Apply n) decls sizes i s m own j = table_pred (table_of decls n) (outside decls sizes i) s m own j
leaf_pred (PlainStmt.Assign to e) decls sizes i s m own j = plain_pred (PlainStmt.Assign to e) (outside decls sizes i) s m own j
leaf_pred (PlainStmt.Read to r c) decls sizes i s m own j = plain_pred (PlainStmt.Read to r c) (outside decls sizes i) s m own j
leaf_pred other decls sizes i s m own j = refl
