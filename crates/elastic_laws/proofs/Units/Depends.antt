-- What expressions, statements, actions and tables are worth and write depends on what they name alone.
use Rattle.std.proofs.Common.{◌≡◌, ℕ, ◌==◌, ◌&&◌, Bool, true, false, List, [], ◌∷◌, ◌++◌, get_or, slice_set, bit_and, Option, Some, None, refl, sym, ap, ap₂, ◌∙◌, if◌then◌else◌}
use Rattle.elx_bits.specs.Words as words
use Rattle.elx_bits.specs.Hash.{hashed}
use Rattle.elastic_ast.specs.declared.flat.Location.{Location}
use Rattle.elastic_ast.specs.declared.statements.Lval.{Lval}
use Rattle.elastic_ast.specs.declared.statements.Lval.TheVariants as lval
use Rattle.elastic_ast.specs.declared.statements.RegRef.{RegRef}
use Rattle.elastic_ast.specs.declared.declarations.Key.{Key}
use Rattle.elastic_ast.specs.declared.declarations.Param.{Param}
use Rattle.elastic_ast.specs.Tree.{PlainDecl, PlainExpr, PlainStmt, PlainStmts, PlainKeyset, PlainEntry, PlainAction, PlainTable}
use Rattle.elastic_ast.specs.Typing.Scope.{or_else, found}
use Rattle.elastic_ast.specs.Containers.LocationPlaces.{place_of_lval, valid_place}
use Rattle.elastic_ast.specs.Typing.LookUps.{register_width, action_of, table_of}
use Rattle.elastic_ast.specs.OperatorSorts.{operator_of, sort_of}
use Rattle.elastic_ast.specs.Typing.Types.{Ty, Bits, Bare, bits_of, of_width, outcome, left_giver, right_giver, width_of_type, type_of, type_at, lval_type}
use Rattle.elastic_ast.specs.Meaning.Memory.{Spot, At, Reg, Memory, Writes, written_or, over, and_then, store}
use Rattle.elastic_ast.specs.Meaning.Values.{Setting, names_of, is_true, apply, turn, count_value, amount_value, value, holds}
use Rattle.elastic_ast.specs.Meaning.Matches.{Run, in_set, in_sets, run_of, chosen}
use Rattle.elastic_ast.specs.Meaning.Written.{outside, inside, register_index, cells_at, assigned, plain_writes, body_writes, arguments, action_writes, run_writes, table_writes, leaf_writes}
use Rattle.elastic_ast.specs.Units.Reach.{location_of, register_location, expr_reads, exprs_read, plain_reads, body_reads, action_reads, set_reads, sets_read, keys_read}
use Rattle.elastic_laws.specs.Units.Footprints.{spot_of, Agree}

-- the test passes at each of the locations
abbrev pub Within : (Spot → Bool) → Option ℕ → List Location → Type 0
Within test index [] = Unit {0}
Within test index (first ∷ rest) = (test (spot_of first index) ≡ true) × Within test index rest

pub within_left : (test : Spot → Bool) (index : Option ℕ) (xs ys : List Location) → Within test index (xs ++ ys) → Within test index xs
within_left test index [] ys h = tt
within_left test index (x ∷ xs) ys h = (h.0, within_left test index xs ys h.1)

pub within_right : (test : Spot → Bool) (index : Option ℕ) (xs ys : List Location) → Within test index (xs ++ ys) → Within test index ys
within_right test index [] ys h = h
within_right test index (x ∷ xs) ys h = within_right test index xs ys h.1

pub within_both : (test : Spot → Bool) (index : Option ℕ) (xs ys : List Location) → Within test index xs → Within test index ys → Within test index (xs ++ ys)
within_both test index [] ys h g = g
within_both test index (x ∷ xs) ys h g = (h.0, within_both test index xs ys h.1 g)

-- the spot of what is named
pub lval_spot : (l : Lval) (i : Option ℕ) → spot_of (location_of l) i ≡ At (place_of_lval l i)
lval_spot (lval.Header h f) i = refl
lval_spot (lval.Meta n None) i = refl
lval_spot (lval.Meta n (Some k)) i = refl
lval_spot (lval.Std n) i = refl

lval_depends : (test : Spot → Bool) (l : Lval) (i : Option ℕ) (s t : Memory) → test (spot_of (location_of l) i) ≡ true → Agree test s t → s (At (place_of_lval l i)) ≡ t (At (place_of_lval l i))
lval_depends test (lval.Header h f) i s t e a = a (At (place_of_lval (lval.Header h f) i)) e
lval_depends test (lval.Meta n None) i s t e a = a (At (place_of_lval (lval.Meta n None) i)) e
lval_depends test (lval.Meta n (Some k)) i s t e a = a (At (place_of_lval (lval.Meta n (Some k)) i)) e
lval_depends test (lval.Std n) i s t e a = a (At (place_of_lval (lval.Std n) i)) e

pub register_spot : (r : RegRef) (i : Option ℕ) → spot_of (register_location r) i ≡ Reg r.name (register_index r i)
register_spot r i = refl

pub value_depends : (test : Spot → Bool) (e : PlainExpr) (w : Setting) (s t : Memory) (giver : Ty) → Within test w.index (expr_reads e) → Agree test s t → value w s e giver ≡ value w t e giver
value_depends test (PlainExpr.At l) w s t giver h a = ap (λ v. v.1) (lval_depends test l w.index s t h.0 a)
value_depends test (PlainExpr.IsValid header) w s t giver h a = ap (λ v. v.1) (a (At (valid_place header)) h.0)
value_depends test (PlainExpr.Unary op of) w s t giver h a =
    ap (turn (operator_of op) (width_of_type (type_at (names_of w) of giver))) (value_depends test of w s t giver h a)
value_depends test (PlainExpr.Binary op left right) w s t giver h a =
    let sort = sort_of (operator_of op) in
    let x = type_of (names_of w) left in
    let y = type_of (names_of w) right in
    ap₂ (apply (operator_of op) (width_of_type (outcome sort x y)) (width_of_type y))
    (value_depends test left w s t (left_giver sort x y) (within_left test w.index (expr_reads left) (expr_reads right) h) a)
    (value_depends test right w s t (right_giver sort x y) (within_right test w.index (expr_reads left) (expr_reads right) h) a)
value_depends test (PlainExpr.Cast width of) w s t giver h a = ap (words.cast width) (value_depends test of w s t (bits_of width) h a)
value_depends test (PlainExpr.Slice of high low) w s t giver h a = ap (words.slice high low) (value_depends test of w s t Bare h a)
value_depends test (PlainExpr.Hash k of modulus) w s t giver h a =
    ap (λ v. hashed (count_value w k) v (amount_value w modulus)) (value_depends test of w s t Bare h a)
value_depends test other w s t giver h a = refl

pub holds_depends : (test : Spot → Bool) (e : PlainExpr) (w : Setting) (s t : Memory) → Within test w.index (expr_reads e) → Agree test s t → holds w s e ≡ holds w t e
holds_depends test e w s t h a = ap is_true (value_depends test e w s t Bare h a)

-- the cells of a register
cells_depend : (test : Spot → Bool) (r : RegRef) (w : Setting) (s t : Memory) → Within test w.index (register_location r ∷ []) → Agree test s t → cells_at w s r ≡ cells_at w t r
cells_depend test r w s t h a = a (Reg r.name (register_index r w.index)) (ap test (sym (register_spot r w.index)) ∙ h.0)

plain_depends : (test : Spot → Bool) (x : PlainStmt) (w : Setting) (s t : Memory) → Within test w.index (plain_reads x) → Agree test s t → plain_writes w s x ≡ plain_writes w t x
plain_depends test (PlainStmt.Assign to e) w s t h a = ap (assigned w to) (value_depends test e w s t (lval_type w.decls to) h a)
plain_depends test (PlainStmt.Read to r c) w s t h a =
    ap₂ (λ l n. assigned w to (get_or l n 0))
    (cells_depend test r w s t (within_right test w.index (expr_reads c) (register_location r ∷ []) h) a)
    (value_depends test c w s t (Bits 32) (within_left test w.index (expr_reads c) (register_location r ∷ []) h) a)
plain_depends test (PlainStmt.Write r c v) w s t h a =
    let tail = within_right test w.index (expr_reads c) (expr_reads v ++ register_location r ∷ []) h in
    let ty = of_width (register_width w.decls r.name) in
    ap (λ l. store r.name (register_index r w.index) (slice_set l (value w s c (Bits 32)) (value w s v ty)))
    (cells_depend test r w s t (within_right test w.index (expr_reads v) (register_location r ∷ []) tail) a)
    ∙ ap₂ (λ n m. store r.name (register_index r w.index) (slice_set (cells_at w t r) n m))
    (value_depends test c w s t (Bits 32) (within_left test w.index (expr_reads c) (expr_reads v ++ register_location r ∷ []) h) a)
    (value_depends test v w s t ty (within_left test w.index (expr_reads v) (register_location r ∷ []) tail) a)
plain_depends test other w s t h a = refl

pub over_agrees : (test : Spot → Bool) (d e : Writes) (s t : Memory) → d ≡ e → Agree test s t → Agree test (over d s) (over e t)
over_agrees test d e s t h a spot q = ap₂ written_or (ap (λ w. w spot) h) (a spot q)

body_depends : (test : Spot → Bool) (xs : PlainStmts) (w : Setting) (s t : Memory) → Within test w.index (body_reads xs) → Agree test s t → body_writes w s xs ≡ body_writes w t xs
body_depends test PlainStmts.nil w s t h a = refl
body_depends test (PlainStmts.cons x xs) w s t h a =
    let e = plain_depends test x w s t (within_left test w.index (plain_reads x) (body_reads xs) h) a in
    ap₂ and_then e
    (body_depends test xs w (over (plain_writes w s x) s) (over (plain_writes w t x) t) (within_right test w.index (plain_reads x) (body_reads xs) h)
    (over_agrees test (plain_writes w s x) (plain_writes w t x) s t e a))

arguments_depend : (test : Spot → Bool) (ps : List Param) (es : List PlainExpr) (w : Setting) (s t : Memory) → Within test w.index (exprs_read es) → Agree test s t → arguments w s ps es ≡ arguments w t ps es
arguments_depend test [] es w s t h a = refl
arguments_depend test (p ∷ ps) [] w s t h a = refl
arguments_depend test (p ∷ ps) (e ∷ es) w s t h a =
    ap₂ (λ v vs. v ∷ vs) (value_depends test e w s t (bits_of p.width) (within_left test w.index (expr_reads e) (exprs_read es) h) a)
    (arguments_depend test ps es w s t (within_right test w.index (expr_reads e) (exprs_read es) h) a)

action_depends : (test : Spot → Bool) (o : Option PlainAction) (es : List PlainExpr) (w : Setting) (s t : Memory) → Within test w.index (exprs_read es) → Within test w.index (action_reads o) → Agree test s t → action_writes w s es o ≡ action_writes w t es o
action_depends test None es w s t h g a = refl
action_depends test (Some action) es w s t h g a =
    ap (λ args. body_writes (inside w action.params args) s action.body) (arguments_depend test action.params es w s t h a)
    ∙ body_depends test action.body (inside w action.params (arguments w t action.params es)) s t g a

-- the test passes at all that an action with its arguments reads
abbrev pub RunWithin : (Spot → Bool) → List PlainDecl → Option ℕ → Option Run → Type 0
RunWithin test decls index None = Unit {0}
RunWithin test decls index (Some run) = Within test index (exprs_read run.1) × Within test index (action_reads (action_of decls run.0))

run_depends : (test : Spot → Bool) (o : Option Run) (w : Setting) (s t : Memory) → RunWithin test w.decls w.index o → Agree test s t → run_writes w s o ≡ run_writes w t o
run_depends test None w s t h a = refl
run_depends test (Some run) w s t h a = action_depends test (action_of w.decls run.0) run.1 w s t h.0 h.1 a

set_depends : (test : Spot → Bool) (k : PlainKeyset) (w : Setting) (s t : Memory) (ty : Ty) (key : ℕ) → Within test w.index (set_reads k) → Agree test s t → in_set w s ty key k ≡ in_set w t ty key k
set_depends test (PlainKeyset.One n) w s t ty key h a = ap (λ v. key == v) (value_depends test n w s t ty h a)
set_depends test (PlainKeyset.Masked n m) w s t ty key h a =
    ap₂ (λ u v. bit_and key u == bit_and v u) (value_depends test m w s t ty (within_right test w.index (expr_reads n) (expr_reads m) h) a)
    (value_depends test n w s t ty (within_left test w.index (expr_reads n) (expr_reads m) h) a)
set_depends test PlainKeyset.Any w s t ty key h a = refl

sets_depend : (test : Spot → Bool) (ks : List Key) (sets : List PlainKeyset) (w : Setting) (s t : Memory) → Within test w.index (keys_read ks) → Within test w.index (sets_read sets) → Agree test s t → in_sets w s ks sets ≡ in_sets w t ks sets
sets_depend test [] [] w s t h g a = refl
sets_depend test [] (x ∷ xs) w s t h g a = refl
sets_depend test (k ∷ ks) [] w s t h g a = refl
sets_depend test (k ∷ ks) (x ∷ xs) w s t h g a =
    let ty = lval_type w.decls k.field in
    ap₂ (λ u v. u && v)
    (ap (λ n. in_set w s ty n x) (value_depends test (PlainExpr.At k.field) w s t ty (h.0, tt) a)
    ∙ set_depends test x w s t ty (value w t (PlainExpr.At k.field) ty) (within_left test w.index (set_reads x) (sets_read xs) g) a)
    (sets_depend test ks xs w s t h.1 (within_right test w.index (set_reads x) (sets_read xs) g) a)

-- at all that an entry reads, and its action
abbrev pub EntriesWithin : (Spot → Bool) → List PlainDecl → Option ℕ → List PlainEntry → Type 0
EntriesWithin test decls index [] = Unit {0}
EntriesWithin test decls index (e ∷ es) = Within test index (sets_read e.keys) × RunWithin test decls index (Some (e.action, e.args)) × EntriesWithin test decls index es

found_depends : (test : Spot → Bool) (ks : List Key) (es : List PlainEntry) (w : Setting) (s t : Memory) → Within test w.index (keys_read ks) → EntriesWithin test w.decls w.index es → Agree test s t → found (run_of w s ks) es ≡ found (run_of w t ks) es
found_depends test ks [] w s t h g a = refl
found_depends test ks (e ∷ es) w s t h g a =
    ap₂ (λ b o. or_else (if b then Some (e.action, e.args) else None) o) (sets_depend test ks e.keys w s t h g.0 a) (found_depends test ks es w s t h g.2 a)

found_within : (test : Spot → Bool) (ks : List Key) (es : List PlainEntry) (w : Setting) (s : Memory) (other : Option Run) → EntriesWithin test w.decls w.index es → RunWithin test w.decls w.index other → RunWithin test w.decls w.index (or_else (found (run_of w s ks) es) other)
found_within test ks [] w s other g o = o
found_within test ks (e ∷ es) w s other g o = go (in_sets w s ks e.keys) (found_within test ks es w s other g.2 o)
  where
    go : (b : Bool) → RunWithin test w.decls w.index (or_else (found (run_of w s ks) es) other) → RunWithin test w.decls w.index (or_else (or_else (if b then Some (e.action, e.args) else None) (found (run_of w s ks) es)) other)
    go true ih = g.1
    go false ih = ih

-- at all that a table and the actions that it may run read
abbrev pub TableWithin : (Spot → Bool) → List PlainDecl → Option ℕ → Option PlainTable → Type 0
TableWithin test decls index None = Unit {0}
TableWithin test decls index (Some table) =
    Within test index (keys_read table.keys) × EntriesWithin test decls index table.entries × RunWithin test decls index table.fallback

table_depends : (test : Spot → Bool) (o : Option PlainTable) (w : Setting) (s t : Memory) → TableWithin test w.decls w.index o → Agree test s t → table_writes w s o ≡ table_writes w t o
table_depends test None w s t h a = refl
table_depends test (Some table) w s t h a =
    ap (λ o. run_writes w s (or_else o table.fallback)) (found_depends test table.keys table.entries w s t h.0 h.1 a)
    ∙ run_depends test (chosen w t table) w s t (found_within test table.keys table.entries w t table.fallback h.1 h.2) a

-- at all that a statement without statements in it reads
abbrev pub LeafWithin : (Spot → Bool) → List PlainDecl → Option ℕ → PlainStmt → Type 0
LeafWithin test decls index (PlainStmt.Call action at args) = RunWithin test decls index (Some (action, args))
LeafWithin test decls index (PlainStmt.Apply table) = TableWithin test decls index (table_of decls table)
LeafWithin test decls index x = Within test index (plain_reads x)

pub leaf_depends : (test : Spot → Bool) (x : PlainStmt) (decls : List PlainDecl) (sizes : List ℕ) (i : Option ℕ) (s t : Memory) → LeafWithin test decls i x → Agree test s t → leaf_writes x decls sizes i s ≡ leaf_writes x decls sizes i t
leaf_depends test (PlainStmt.Call action at args) decls sizes i s t h a = run_depends test (Some (action, args)) (outside decls sizes i) s t h a
leaf_depends test (PlainStmt.Apply table) decls sizes i s t h a = table_depends test (table_of decls table) (outside decls sizes i) s t h a
leaf_depends test (PlainStmt.Assign to e) decls sizes i s t h a = plain_depends test (PlainStmt.Assign to e) (outside decls sizes i) s t h a
leaf_depends test (PlainStmt.Read to r c) decls sizes i s t h a = plain_depends test (PlainStmt.Read to r c) (outside decls sizes i) s t h a
leaf_depends test (PlainStmt.Write r c v) decls sizes i s t h a = plain_depends test (PlainStmt.Write r c v) (outside decls sizes i) s t h a
leaf_depends test other decls sizes i s t h a = refl
