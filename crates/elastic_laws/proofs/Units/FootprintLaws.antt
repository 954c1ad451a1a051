-- Instances keep to what their units may read and write.
use Rattle.std.proofs.Common.{◌≡◌, ℕ, ◌==◌, ◌&&◌, ◌||◌, nat_eq, not, ⊎_elim, Bool, true, false, List, [], ◌∷◌, ◌++◌, Option, Some, None, is_some, refl, sym, ap, ap₂, ◌∙◌, subst, if◌then◌else◌, filter, slice_set, get_or}
use Rattle.std.specs.Option.{option_eq}
use Rattle.std.specs.Prelude.{IfSome}
use Rattle.std.proofs.lemmas.Bool.{or_left, or_right, or_parts, or_cases, eq-eqb}
use Rattle.std.proofs.lemmas.Slice.Eq.{bytes_eq-Decides}
use Rattle.elx_bits.specs.Words.{BitWord}
use Rattle.elastic_ast.specs.declared.flat.Lit.{Lit}
use Rattle.elastic_ast.specs.declared.flat.Location.{Location}
use Rattle.elastic_ast.specs.declared.flat.Location.TheVariants as location
use Rattle.elastic_ast.specs.declared.statements.Lval.{Lval}
use Rattle.elastic_ast.specs.declared.declarations.Key.{Key}
use Rattle.elastic_ast.specs.Tree.{Name, PlainDecl, PlainExpr, PlainStmt, PlainStmts, PlainEntry, PlainAction, PlainTable}
use Rattle.elastic_ast.specs.Typing.Scope.{same, among, or_else, found}
use Rattle.elastic_ast.specs.Containers.LocationPlaces.{place_of_lval, valid_place}
use Rattle.elastic_ast.specs.Typing.LookUps.{register_width, action_of, table_of}
use Rattle.elastic_ast.specs.Typing.Types.{Bits, of_width, lval_type, width_of_type}
use Rattle.elastic_ast.specs.Meaning.Memory.{Spot, At, Reg, Memory, Writes, over, put, store}
use Rattle.elastic_ast.specs.Meaning.Values.{Setting, bit, value, holds}
use Rattle.elastic_ast.specs.Meaning.Matches.{Run, in_sets, run_of, chosen}
use Rattle.elastic_ast.specs.Meaning.Written.{outside, inside, register_index, cells_at, assigned, plain_writes, body_writes, arguments, action_writes, run_writes, table_writes, leaf_writes}
use Rattle.elastic_ast.specs.Units.PlainUnits.{PlainWork, Plain, Call, Apply, Pred}
use Rattle.elastic_ast.specs.Units.Cuts.{Piece}
use Rattle.elastic_ast.specs.Units.Reach.{location_of, register_location, expr_reads, exprs_read, plain_assigns, body_assigns, action_reads, action_assigns, sets_read, entries_read, fallback_reads, keys_read, actions_read, actions_assign, table_reads, table_assigns, leaf_reads, leaf_assigns, work_reads, work_assigns, lits_read, same_location, each_once, piece_reads, piece_writes}
use Rattle.elastic_ast.specs.Units.UnitsOf.{Around, unit_of}
use Rattle.elastic_ast.specs.Units.Work.{pred_place, lits_hold, conds_hold, work_writes, writes_if, does}
use Rattle.elastic_ast.proofs.SameLocations.{location_told}
use Rattle.elastic_laws.specs.Units.Footprints.{spot_of, same_spot, covers, Agree, HasFootprint, RunFits, EntriesFit, TableFits, TablesFit, KeepsTo}
use Rattle.elastic_laws.proofs.Units.Depends.{Within, within_left, within_right, lval_spot, register_spot, holds_depends, RunWithin, EntriesWithin, TableWithin, LeafWithin, leaf_depends}
use Rattle.elastic_ast.proofs.Typing.SameNames.{same_self}

-- what isn't covered
none_left : (i : Option ℕ) (l : Spot) (xs ys : List Location) → covers (xs ++ ys) i l ≡ false → covers xs i l ≡ false
none_left i l [] ys h = refl
none_left i l (x ∷ xs) ys h =
    let p = or_parts (same_spot (spot_of x i) l) (covers (xs ++ ys) i l) h in
    ap₂ (λ a b. a || b) p.0 (none_left i l xs ys p.1)

none_right : (i : Option ℕ) (l : Spot) (xs ys : List Location) → covers (xs ++ ys) i l ≡ false → covers ys i l ≡ false
none_right i l [] ys h = h
none_right i l (x ∷ xs) ys h = none_right i l xs ys (or_parts (same_spot (spot_of x i) l) (covers (xs ++ ys) i l) h).1

-- the first of the locations isn't the spot
none_first : (i : Option ℕ) (l : Spot) (x : Location) (xs : List Location) → covers (x ∷ xs) i l ≡ false → same_spot (spot_of x i) l ≡ false
none_first i l x xs h = (or_parts (same_spot (spot_of x i) l) (covers xs i l) h).0

put_inside : (p : List ℕ) (v : BitWord) (l : Spot) → same_spot (At p) l ≡ false → put p v l ≡ None
put_inside p v (At q) h = ap (λ b. if b then Some v else None) h
put_inside p v (Reg n i) h = refl

store_inside : (n : Name) (i : Option ℕ) (v : List ℕ) (l : Spot) → same_spot (Reg n i) l ≡ false → store n i v l ≡ None
store_inside n i v (At q) h = refl
store_inside n i v (Reg m j) h = ap (λ b. if b then Some v else None) h

assigned_inside : (w : Setting) (to : Lval) (number : ℕ) (l : Spot) → same_spot (spot_of (location_of to) w.index) l ≡ false → assigned w to number l ≡ None
assigned_inside w to number l h =
    put_inside (place_of_lval to w.index) (width_of_type (lval_type w.decls to), number) l (ap (λ x. same_spot x l) (sym (lval_spot to w.index)) ∙ h)

plain_inside : (x : PlainStmt) (w : Setting) (s : Memory) (l : Spot) → covers (plain_assigns x) w.index l ≡ false → plain_writes w s x l ≡ None
plain_inside (PlainStmt.Assign to e) w s l h = assigned_inside w to (value w s e (lval_type w.decls to)) l (none_first w.index l (location_of to) [] h)
plain_inside (PlainStmt.Read to r c) w s l h =
    assigned_inside w to (get_or (cells_at w s r) (value w s c (Bits 32)) 0) l (none_first w.index l (location_of to) (register_location r ∷ []) h)
plain_inside (PlainStmt.Write r c v) w s l h =
    store_inside r.name (register_index r w.index) (slice_set (cells_at w s r) (value w s c (Bits 32)) (value w s v (of_width (register_width w.decls r.name)))) l (ap (λ x. same_spot x l) (sym (register_spot r w.index)) ∙ none_first w.index l (register_location r) [] h)
plain_inside (PlainStmt.Valid header on) w s l h = put_inside (valid_place header) (1, bit on) l (none_first w.index l (location.Valid header) [] h)
plain_inside other w s l h = refl

body_inside : (xs : PlainStmts) (w : Setting) (s : Memory) (l : Spot) → covers (body_assigns xs) w.index l ≡ false → body_writes w s xs l ≡ None
body_inside PlainStmts.nil w s l h = refl
body_inside (PlainStmts.cons x xs) w s l h =
    ap₂ (λ a b. or_else a b) (body_inside xs w (over (plain_writes w s x) s) l (none_right w.index l (plain_assigns x) (body_assigns xs) h))
    (plain_inside x w s l (none_left w.index l (plain_assigns x) (body_assigns xs) h))

action_inside : (o : Option PlainAction) (es : List PlainExpr) (w : Setting) (s : Memory) (l : Spot) → covers (action_assigns o) w.index l ≡ false → action_writes w s es o l ≡ None
action_inside None es w s l h = refl
action_inside (Some action) es w s l h = body_inside action.body (inside w action.params (arguments w s action.params es)) s l h

-- an action that may run doesn't assign the spot
abbrev Quiet : List PlainDecl → Option ℕ → Spot → Option Run → Type 0
Quiet decls i l None = Unit {0}
Quiet decls i l (Some run) = covers (action_assigns (action_of decls run.0)) i l ≡ false

run_inside : (o : Option Run) (w : Setting) (s : Memory) (l : Spot) → Quiet w.decls w.index l o → run_writes w s o l ≡ None
run_inside None w s l h = refl
run_inside (Some run) w s l h = action_inside (action_of w.decls run.0) run.1 w s l h

quiet_action : (decls : List PlainDecl) (i : Option ℕ) (l : Spot) (names : List Name) (name : Name) → covers (actions_assign decls names) i l ≡ false → among names name ≡ true → covers (action_assigns (action_of decls name)) i l ≡ false
quiet_action decls i l [] name h e = cc
quiet_action decls i l (n ∷ ns) name h e =
    ⊎_elim
    (λ k. ap (λ m. covers (action_assigns (action_of decls m)) i l) ((bytes_eq-Decides name n).0 k) ∙ none_left i l (action_assigns (action_of decls n)) (actions_assign decls ns) h)
    (λ k. quiet_action decls i l ns name (none_right i l (action_assigns (action_of decls n)) (actions_assign decls ns) h) k)
    (or_cases (same name n) (among ns name) e)

quiet_run : (decls : List PlainDecl) (i : Option ℕ) (l : Spot) (names : List Name) (name : Name) → covers (actions_assign decls names) i l ≡ false → RunFits decls names name → covers (action_assigns (action_of decls name)) i l ≡ false
quiet_run decls i l names name h fit =
    ⊎_elim (λ k. quiet_action decls i l names name h k) (λ k. ap (λ o. covers (action_assigns o) i l) k) fit

quiet_found : (ks : List Key) (es : List PlainEntry) (w : Setting) (s : Memory) (l : Spot) (names : List Name) (other : Option Run) → covers (actions_assign w.decls names) w.index l ≡ false → EntriesFit w.decls names es → Quiet w.decls w.index l other → Quiet w.decls w.index l (or_else (found (run_of w s ks) es) other)
quiet_found ks [] w s l names other h fit o = o
quiet_found ks (e ∷ es) w s l names other h fit o = go (in_sets w s ks e.keys) (quiet_found ks es w s l names other h fit.1 o)
  where
    go : (b : Bool) → Quiet w.decls w.index l (or_else (found (run_of w s ks) es) other) → Quiet w.decls w.index l (or_else (or_else (if b then Some (e.action, e.args) else None) (found (run_of w s ks) es)) other)
    go true ih = quiet_run w.decls w.index l names e.action h fit.0
    go false ih = ih

quiet_fallback : (decls : List PlainDecl) (i : Option ℕ) (l : Spot) (names : List Name) (o : Option Run) → covers (actions_assign decls names) i l ≡ false → IfSome o (λ default. RunFits decls names default.0) → Quiet decls i l o
quiet_fallback decls i l names None h fit = tt
quiet_fallback decls i l names (Some run) h fit = quiet_run decls i l names run.0 h fit

table_inside : (o : Option PlainTable) (w : Setting) (s : Memory) (l : Spot) → IfSome o (TableFits w.decls) → covers (table_assigns w.decls o) w.index l ≡ false → table_writes w s o l ≡ None
table_inside None w s l fit h = refl
table_inside (Some table) w s l fit h =
    run_inside (chosen w s table) w s l
    (quiet_found table.keys table.entries w s l table.actions table.fallback h fit.entries (quiet_fallback w.decls w.index l table.actions table.fallback h fit.fallback))

leaf_inside : (x : PlainStmt) (decls : List PlainDecl) (sizes : List ℕ) (i : Option ℕ) (s : Memory) (l : Spot) → TablesFit decls → covers (leaf_assigns decls x) i l ≡ false → leaf_writes x decls sizes i s l ≡ None
leaf_inside (PlainStmt.Call action at args) decls sizes i s l fit h = action_inside (action_of decls action) args (outside decls sizes i) s l h
leaf_inside (PlainStmt.Apply table) decls sizes i s l fit h = table_inside (table_of decls table) (outside decls sizes i) s l (fit table) h
leaf_inside (PlainStmt.Assign to e) decls sizes i s l fit h = plain_inside (PlainStmt.Assign to e) (outside decls sizes i) s l h
leaf_inside (PlainStmt.Read to r c) decls sizes i s l fit h = plain_inside (PlainStmt.Read to r c) (outside decls sizes i) s l h
leaf_inside (PlainStmt.Write r c v) decls sizes i s l fit h = plain_inside (PlainStmt.Write r c v) (outside decls sizes i) s l h
leaf_inside (PlainStmt.Valid header on) decls sizes i s l fit h = plain_inside (PlainStmt.Valid header on) (outside decls sizes i) s l h
leaf_inside other decls sizes i s l fit h = refl

work_inside : (work : PlainWork) (decls : List PlainDecl) (sizes : List ℕ) (i : Option ℕ) (s : Memory) (l : Spot) → TablesFit decls → covers (work_assigns decls (is_some i) work) i l ≡ false → work_writes work decls sizes i s l ≡ None
work_inside (Plain x) decls sizes i s l fit h = leaf_inside x decls sizes i s l fit h
work_inside (Call x) decls sizes i s l fit h = leaf_inside x decls sizes i s l fit h
work_inside (Apply table) decls sizes i s l fit h = leaf_inside (PlainStmt.Apply table) decls sizes i s l fit h
work_inside (Pred number c) decls sizes i s l fit h =
    put_inside (pred_place number (is_some i) i) (1, bit (holds (outside decls sizes i) s c)) l (none_first i l (location.Pred number (is_some i)) [] h)

if_inside : (b : Bool) (d : Writes) (l : Spot) → d l ≡ None → writes_if b d l ≡ None
if_inside true d l h = h
if_inside false d l h = refl

-- what a table and its actions read
within_action : (test : Spot → Bool) (decls : List PlainDecl) (i : Option ℕ) (names : List Name) (name : Name) → Within test i (actions_read decls names) → among names name ≡ true → Within test i (action_reads (action_of decls name))
within_action test decls i [] name h e = cc
within_action test decls i (n ∷ ns) name h e =
    ⊎_elim
    (λ k. subst (λ m. Within test i (action_reads (action_of decls m))) (sym ((bytes_eq-Decides name n).0 k)) (within_left test i (action_reads (action_of decls n)) (actions_read decls ns) h))
    (λ k. within_action test decls i ns name (within_right test i (action_reads (action_of decls n)) (actions_read decls ns) h) k)
    (or_cases (same name n) (among ns name) e)

within_run : (test : Spot → Bool) (decls : List PlainDecl) (i : Option ℕ) (names : List Name) (name : Name) → Within test i (actions_read decls names) → RunFits decls names name → Within test i (action_reads (action_of decls name))
within_run test decls i names name h fit =
    ⊎_elim (λ k. within_action test decls i names name h k) (λ k. subst (λ o. Within test i (action_reads o)) (sym k) tt) fit

within_entries : (test : Spot → Bool) (decls : List PlainDecl) (i : Option ℕ) (names : List Name) (es : List PlainEntry) → Within test i (actions_read decls names) → EntriesFit decls names es → Within test i (entries_read es) → EntriesWithin test decls i es
within_entries test decls i names [] h fit g = tt
within_entries test decls i names (e ∷ es) h fit g =
    let front = within_left test i (sets_read e.keys ++ exprs_read e.args) (entries_read es) g in (
      within_left test i (sets_read e.keys) (exprs_read e.args) front,
      (within_right test i (sets_read e.keys) (exprs_read e.args) front, within_run test decls i names e.action h fit.0),
      within_entries test decls i names es h fit.1 (within_right test i (sets_read e.keys ++ exprs_read e.args) (entries_read es) g),
    )

within_fallback : (test : Spot → Bool) (decls : List PlainDecl) (i : Option ℕ) (names : List Name) (o : Option Run) → Within test i (actions_read decls names) → IfSome o (λ default. RunFits decls names default.0) → Within test i (fallback_reads o) → RunWithin test decls i o
within_fallback test decls i names None h fit g = tt
within_fallback test decls i names (Some run) h fit g = (g, within_run test decls i names run.0 h fit)

within_table : (test : Spot → Bool) (decls : List PlainDecl) (i : Option ℕ) (o : Option PlainTable) → IfSome o (TableFits decls) → Within test i (table_reads decls o) → TableWithin test decls i o
within_table test decls i None fit h = tt
within_table test decls i (Some table) fit h =
    let keys = keys_read table.keys in
    let entries = entries_read table.entries in
    let other = fallback_reads table.fallback in
    let actions = actions_read decls table.actions in
    let tail = within_right test i keys ((entries ++ other) ++ actions) h in
    let called = within_right test i (entries ++ other) actions tail in
    let listed = within_left test i (entries ++ other) actions tail in (
      within_left test i keys ((entries ++ other) ++ actions) h,
      within_entries test decls i table.actions table.entries called fit.entries (within_left test i entries other listed),
      within_fallback test decls i table.actions table.fallback called fit.fallback (within_right test i entries other listed),
    )

within_leaf : (test : Spot → Bool) (decls : List PlainDecl) (i : Option ℕ) (x : PlainStmt) → TablesFit decls → Within test i (leaf_reads decls x) → LeafWithin test decls i x
within_leaf test decls i (PlainStmt.Call action at args) fit h =
    (within_left test i (exprs_read args) (action_reads (action_of decls action)) h, within_right test i (exprs_read args) (action_reads (action_of decls action)) h)
within_leaf test decls i (PlainStmt.Apply table) fit h = within_table test decls i (table_of decls table) (fit table) h
within_leaf test decls i other fit h = h

lits_depend : (test : Spot → Bool) (ls : List Lit) (i : Option ℕ) (s t : Memory) → Within test i (lits_read ls) → Agree test s t → lits_hold ls i s ≡ lits_hold ls i t
lits_depend test [] i s t h a = refl
lits_depend test (l ∷ ls) i s t h a =
    ap₂ (λ v b. (v.1 == bit l.on) && b) (a (At (pred_place l.number l.own i)) h.0) (lits_depend test ls i s t h.1 a)

conds_depend : (test : Spot → Bool) (cs : List PlainExpr) (decls : List PlainDecl) (sizes : List ℕ) (i : Option ℕ) (s t : Memory) → Within test i (exprs_read cs) → Agree test s t → conds_hold cs decls sizes i s ≡ conds_hold cs decls sizes i t
conds_depend test [] decls sizes i s t h a = refl
conds_depend test (c ∷ cs) decls sizes i s t h a =
    ap₂ (λ v b. v && b) (holds_depends test c (outside decls sizes i) s t (within_left test i (expr_reads c) (exprs_read cs) h) a)
    (conds_depend test cs decls sizes i s t (within_right test i (expr_reads c) (exprs_read cs) h) a)

work_depends : (test : Spot → Bool) (work : PlainWork) (decls : List PlainDecl) (sizes : List ℕ) (i : Option ℕ) (s t : Memory) → TablesFit decls → Within test i (work_reads decls work) → Agree test s t → work_writes work decls sizes i s ≡ work_writes work decls sizes i t
work_depends test (Plain x) decls sizes i s t fit h a = leaf_depends test x decls sizes i s t (within_leaf test decls i x fit h) a
work_depends test (Call x) decls sizes i s t fit h a = leaf_depends test x decls sizes i s t (within_leaf test decls i x fit h) a
work_depends test (Apply table) decls sizes i s t fit h a =
    leaf_depends test (PlainStmt.Apply table) decls sizes i s t (within_leaf test decls i (PlainStmt.Apply table) fit h) a
work_depends test (Pred number c) decls sizes i s t fit h a =
    ap (λ b. put (pred_place number (is_some i) i) (1, bit b)) (holds_depends test c (outside decls sizes i) s t h a)

does_depends : (test : Spot → Bool) (ls : List Lit) (cs : List PlainExpr) (work : PlainWork) (decls : List PlainDecl) (sizes : List ℕ) (i : Option ℕ) (s t : Memory) → TablesFit decls → Within test i (lits_read ls ++ (exprs_read cs ++ work_reads decls work)) → Agree test s t → does ls cs work decls sizes i s ≡ does ls cs work decls sizes i t
does_depends test ls cs work decls sizes i s t fit h a =
    let tail = within_right test i (lits_read ls) (exprs_read cs ++ work_reads decls work) h in
    ap₂ writes_if
    (ap₂ (λ b c. b && c) (lits_depend test ls i s t (within_left test i (lits_read ls) (exprs_read cs ++ work_reads decls work) h) a) (conds_depend test cs decls sizes i s t (within_left test i (exprs_read cs) (work_reads decls work) tail) a))
    (work_depends test work decls sizes i s t fit (within_right test i (exprs_read cs) (work_reads decls work) tail) a)

-- a list of locations without doubles covers the same spots
kept_first : (a b c d : Bool) → (a || c) ≡ (a || d) → (a || (b || c)) ≡ (a || (b || d))
kept_first true b c d e = refl
kept_first false b c d e = ap (λ x. b || x) e

left_out : (a b c d : Bool) → a ≡ b → (a || c) ≡ (a || d) → (a || c) ≡ (a || (b || d))
left_out true b c d p e = refl
left_out false true c d p e = cc
left_out false false c d p e = e

covers_filter : (i : Option ℕ) (l : Spot) (x : Location) (ys : List Location) → covers (x ∷ filter (λ y. not (same_location x y)) ys) i l ≡ covers (x ∷ ys) i l
covers_filter i l x [] = refl
covers_filter i l x (y ∷ ys) = go (same_location x y) refl (covers_filter i l x ys)
  where
    at : Location → Bool
    at z = same_spot (spot_of z i) l

    others : List Location
    others = filter (λ z. not (same_location x z)) ys

    go : (b : Bool) → same_location x y ≡ b → (at x || covers others i l) ≡ (at x || covers ys i l) → (at x || covers (if not (same_location x y) then y ∷ others else others) i l) ≡ (at x || (at y || covers ys i l))
    go true e ih =
        ap (λ b. at x || covers (if not b then y ∷ others else others) i l) e
        ∙ left_out (at x) (at y) (covers others i l) (covers ys i l) (ap at (location_told x y e)) ih
    go false e ih =
        ap (λ b. at x || covers (if not b then y ∷ others else others) i l) e
        ∙ kept_first (at x) (at y) (covers others i l) (covers ys i l) ih

covers_once : (i : Option ℕ) (l : Spot) (xs : List Location) → covers (each_once xs) i l ≡ covers xs i l
covers_once i l [] = refl
covers_once i l (x ∷ xs) = covers_filter i l x (each_once xs) ∙ ap (λ b. same_spot (spot_of x i) l || b) (covers_once i l xs)

index_self : (i : Option ℕ) → option_eq nat_eq i i ≡ true
index_self None = refl
index_self (Some i) = eq-eqb i i refl

spot_self : (l : Spot) → same_spot l l ≡ true
spot_self (At p) = same_self p
spot_self (Reg n i) = ap₂ (λ a b. a && b) (same_self n) (index_self i)

within_more : (test other : Spot → Bool) → ((l : Spot) → test l ≡ true → other l ≡ true) → (i : Option ℕ) (xs : List Location) → Within test i xs → Within other i xs
within_more test other f i [] h = tt
within_more test other f i (x ∷ xs) h = (f (spot_of x i) h.0, within_more test other f i xs h.1)

covers_self : (i : Option ℕ) (xs : List Location) → Within (covers xs i) i xs
covers_self i [] = tt
covers_self i (x ∷ xs) = (
  or_left (same_spot (spot_of x i) (spot_of x i)) (covers xs i (spot_of x i)) (spot_self (spot_of x i)),
  within_more (covers xs i) (covers (x ∷ xs) i) (λ l e. or_right (same_spot (spot_of x i) l) (covers xs i l) e) i xs (covers_self i xs),
)

pub piece_footprint : (decls : List PlainDecl) → TablesFit decls → (sizes : List ℕ) (ls : List Lit) (cs : List PlainExpr) (work : PlainWork) (i : Option ℕ) → HasFootprint (covers (piece_reads decls ls cs work) i) (covers (piece_writes decls (is_some i) work) i) (does ls cs work decls sizes i)
piece_footprint decls fit sizes ls cs work i =
    record {
      inside = λ s l h. if_inside (lits_hold ls i s && conds_hold cs decls sizes i s) (work_writes work decls sizes i s) l (work_inside work decls sizes i s l fit (sym (covers_once i l (work_assigns decls (is_some i) work)) ∙ h));
      depends = λ s t a. does_depends (covers (piece_reads decls ls cs work) i) ls cs work decls sizes i s t fit (within_more (covers reads i) (covers (piece_reads decls ls cs work) i) (λ l e. covers_once i l reads ∙ e) i reads (covers_self i reads)) a;
    }
  where
    reads : List Location
    reads = lits_read ls ++ (exprs_read cs ++ work_reads decls work)

pub unit_footprint : (decls : List PlainDecl) → TablesFit decls → (sizes : List ℕ) (around : Option Around) (piece : Piece) (index : ℕ) → KeepsTo decls sizes (unit_of decls around piece) index
unit_footprint decls fit sizes None piece index = piece_footprint decls fit sizes piece.lits piece.conds piece.work None
unit_footprint decls fit sizes (Some w) piece index = piece_footprint decls fit sizes piece.lits piece.conds piece.work (Some index)
