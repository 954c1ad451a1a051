-- The tables of a typed program: each entry and the default run an action that the table lists, and those are declared.
use Rattle.std.proofs.Common.{◌≡◌, ℕ, zero, suc, ◌≤◌, Bool, true, false, List, [], ◌∷◌, ◌++◌, map, take, length, Option, Some, None, refl, sym, ap, subst, ◌∙◌, true≢false, arith, append_assoc}
use Rattle.std.proofs.lemmas.List.{append-nil}
use Rattle.std.specs.Prelude.{if◌then◌else◌, flat_map, slice_get, Contains}
use Rattle.std.specs.Cmp.Lexicographic.{same_text}
use Rattle.elastic_ast.specs.declared.declarations.Param.{Param}
use Rattle.elastic_ast.specs.Tree.{Name, PlainDecl, PlainExpr, PlainStmts, PlainAction, PlainLocal, PlainTable, PlainEntry}
use Rattle.elastic_ast.specs.Typing.Scope.{same, among, or_else, found}
use Rattle.elastic_ast.specs.Typing.LookUps.{locals_in, locals_of, action_in, action_of, table_in, table_of}
use Rattle.elastic_ast.specs.Typing.Demand.{Demand, Wide, Listed, first_broken, fixed_names}
use Rattle.elastic_ast.specs.Typing.AskedOfNames.{asks_names}
use Rattle.elastic_ast.specs.Typing.AskedInStatements.{no_action_name, asks_stmts}
use Rattle.elastic_ast.specs.Typing.AskedInLocals.{option_names, param_name, asks_param, in_action, asks_action, local_name, asks_key, asks_listed, asks_size, asks_sets, asks_run, asks_entry, asks_fallback, asks_table, asks_local, asks_locals}
use Rattle.elastic_ast.specs.Typing.Typed.{Typed}
use Rattle.elastic_laws.proofs.Typing.TypedFacts.{wide_is, parts, head_met, if_some, FoundAt, found_at, control_parts}
use Rattle.elastic_laws.proofs.Typing.TypedNames.{names_new}

-- what each item of a list asks is met
pub item_met : {A : Type 0} (allow : Bool) (f : A → List Demand) (xs : List A) → first_broken allow (flat_map f xs) ≡ None → (x : A) → Contains xs x → first_broken allow (f x) ≡ None
item_met allow f [] h x c = absurd (omega arith)
item_met allow f (y ∷ ys) h x (zero, k, e) = subst (λ z. first_broken allow (f z) ≡ None) e (parts allow (f y) (flat_map f ys) h).0
item_met allow f (y ∷ ys) h x (suc i, k, e) = item_met allow f ys (parts allow (f y) (flat_map f ys) h).1 x (i, omega arith, e)

-- what the action or table of a number asks, after those before it
pub local_asks : (allow : Bool) (before : List PlainDecl) (body : PlainStmts) (seen ls : List PlainLocal) → first_broken allow (asks_locals before body seen ls) ≡ None → (i : ℕ) (x : PlainLocal) → slice_get ls i ≡ Some x
    → first_broken allow (asks_local before body (seen ++ take i ls) x) ≡ None
local_asks allow before body seen [] h i x e = cc
local_asks allow before body seen (y ∷ ys) h zero x e =
    let s : y ≡ x = cc in
    subst (λ z. first_broken allow (asks_local before body z x) ≡ None) (sym (append-nil seen))
    (subst (λ z. first_broken allow (asks_local before body seen z) ≡ None) s (parts allow (asks_local before body seen y) (asks_locals before body (seen ++ y ∷ []) ys) h).0)
local_asks allow before body seen (y ∷ ys) h (suc i) x e =
    subst (λ z. first_broken allow (asks_local before body z x) ≡ None) (append_assoc seen (y ∷ []) (take i ys))
    (local_asks allow before body (seen ++ y ∷ []) ys (parts allow (asks_local before body seen y) (asks_locals before body (seen ++ y ∷ []) ys) h).1 i x e)

-- where a look-up among the actions and tables of all controls finds something
pub record LocalAt {B : Type 0} (gives : PlainLocal → Option B) (ds : List PlainDecl) (given : B) : Type 0 where
  pub number : ℕ
  pub control : Name
  pub locals : List PlainLocal
  pub body : PlainStmts
  pub here : slice_get ds number ≡ Some (PlainDecl.Control control locals body)
  pub local : FoundAt gives locals given

module _ {B : Type 0} (gives : PlainLocal → Option B) where
  found-append : (xs ys : List PlainLocal) → found gives (xs ++ ys) ≡ or_else (found gives xs) (found gives ys)
  found-append [] ys = refl
  found-append (x ∷ xs) ys = by (gives x) (found-append xs ys)
    where
      by : (o : Option B) → found gives (xs ++ ys) ≡ or_else (found gives xs) (found gives ys) → or_else o (found gives (xs ++ ys)) ≡ or_else (or_else o (found gives xs)) (found gives ys)
      by (Some z) h = refl
      by None h = h

  in_decl : (x : PlainDecl) (given : B) → found gives (locals_in x) ≡ Some given → (control : Name) × (locals : List PlainLocal) × (body : PlainStmts) × (x ≡ PlainDecl.Control control locals body) × FoundAt gives locals given
  in_decl (PlainDecl.Control control locals body) given h = (control, locals, body, refl, found_at gives locals given h)
  in_decl other given h = cc

  pub local_at : (ds : List PlainDecl) (given : B) → found gives (locals_of ds) ≡ Some given → LocalAt gives ds given
  local_at [] given h = cc
  local_at (x ∷ ds) given h = by (found gives (locals_in x)) refl (sym (found-append (locals_in x) (locals_of ds)) ∙ h) (local_at ds given)
    where
      by : (o : Option B) → found gives (locals_in x) ≡ o → or_else o (found gives (locals_of ds)) ≡ Some given → (found gives (locals_of ds) ≡ Some given → LocalAt gives ds given) → LocalAt gives (x ∷ ds) given
      by (Some z) e k ih = let p = in_decl x given (e ∙ k) in record { number = 0; control = p.0; locals = p.1; body = p.2; here = ap Some p.3; local = p.4 }
      by None e k ih = let l : LocalAt gives ds given = ih k in record { number = suc l.number; control = l.control; locals = l.locals; body = l.body; here = l.here; local = l.local }

table_given : (name : Name) (x : PlainLocal) (table : PlainTable) → table_in name x ≡ Some table → x ≡ PlainLocal.OfTable table
table_given name (PlainLocal.OfTable other) table h = ap PlainLocal.OfTable (if_some (same name other.name) other table h)
table_given name (PlainLocal.OfAction action) table h = cc

-- what a table of a typed program asks is met, after some declarations and some actions and tables
pub record TableAsks (allow : Bool) (table : PlainTable) : Type 0 where
  pub before : List PlainDecl
  pub locals : List PlainLocal
  pub fine : first_broken allow (asks_table before locals table) ≡ None

pub table_asks : (allow : Bool) (ds : List PlainDecl) → Typed allow ds → (name : Name) (table : PlainTable) → table_of ds name ≡ Some table → TableAsks allow table
table_asks allow ds t name table h =
    let l : LocalAt (table_in name) ds table = local_at (table_in name) ds table h in
    let p = control_parts allow ds t l.number l.control l.locals l.body l.here in
    record {
      before = take l.number ds;
      locals = take l.local.number l.locals;
      fine = local_asks allow (take l.number ds) l.body [] l.locals p.1 l.local.number (PlainLocal.OfTable table) (l.local.here ∙ ap Some (table_given name l.local.at table l.local.gives_it));
    }

-- its parts
table_parts : (allow : Bool) (before : List PlainDecl) (locals : List PlainLocal) (table : PlainTable) → first_broken allow (asks_table before locals table) ≡ None
    → (first_broken allow (flat_map (asks_key before) table.keys) ≡ None) × (first_broken allow (flat_map (asks_listed locals) table.actions) ≡ None)
    × (first_broken allow (flat_map (asks_entry before locals table) table.entries) ≡ None) × (first_broken allow (asks_fallback before locals table table.fallback) ≡ None)
table_parts allow before locals table h =
    let keys = flat_map (asks_key before) table.keys in
    let listed = flat_map (asks_listed locals) table.actions in
    let size = asks_size (length table.entries) table.size in
    let entries = flat_map (asks_entry before locals table) table.entries in
    let fallback = asks_fallback before locals table table.fallback in
    let p = parts allow keys (listed ++ (size ++ (entries ++ fallback))) h in
    let q = parts allow listed (size ++ (entries ++ fallback)) p.1 in
    let r = parts allow size (entries ++ fallback) q.1 in
    let s = parts allow entries fallback r.1 in
    (p.0, q.0, s.0, s.1)

-- the action of each entry is among the table's actions
pub entry_listed : (allow : Bool) (ds : List PlainDecl) → Typed allow ds → (name : Name) (table : PlainTable) → table_of ds name ≡ Some table → (entry : PlainEntry) → Contains table.entries entry → among table.actions entry.action ≡ true
entry_listed allow ds t name table h entry c =
    let a : TableAsks allow table = table_asks allow ds t name table h in
    let e = item_met allow (asks_entry a.before a.locals table) table.entries (table_parts allow a.before a.locals table a.fine).2 entry c in
    (head_met allow (Listed (among table.actions entry.action)) (asks_run a.before a.locals entry.action entry.args) (parts allow (asks_sets a.before entry.keys table.keys) (Listed (among table.actions entry.action) ∷ asks_run a.before a.locals entry.action entry.args) e).1).0

-- so is the default action, or it is `NoAction`
pub fallback_listed : (allow : Bool) (ds : List PlainDecl) → Typed allow ds → (name : Name) (table : PlainTable) → table_of ds name ≡ Some table → (run : Name × List PlainExpr) → table.fallback ≡ Some run → among (no_action_name ∷ table.actions) run.0 ≡ true
fallback_listed allow ds t name table h run e =
    let a : TableAsks allow table = table_asks allow ds t name table h in
    let f : first_broken allow (asks_fallback a.before a.locals table (Some run)) ≡ None = subst (λ z. first_broken allow (asks_fallback a.before a.locals table z) ≡ None) e (table_parts allow a.before a.locals table a.fine).3 in
    (head_met allow (Listed (among (no_action_name ∷ table.actions) run.0)) (asks_run a.before a.locals run.0 run.1) f).0

-- an action of a typed program, and what it asks after some declarations
pub action_is : (name : Name) (x : PlainLocal) (action : PlainAction) → action_in name x ≡ Some action → x ≡ PlainLocal.OfAction action
action_is name (PlainLocal.OfAction other) action h = ap PlainLocal.OfAction (if_some (same name other.name) other action h)
action_is name (PlainLocal.OfTable table) action h = cc

pub record ActionAsks (allow : Bool) (action : PlainAction) : Type 0 where
  pub before : List PlainDecl
  pub body : PlainStmts
  pub fine : first_broken allow (asks_action before body action) ≡ None

pub action_asks : (allow : Bool) (ds : List PlainDecl) → Typed allow ds → (name : Name) (action : PlainAction) → action_of ds name ≡ Some action → ActionAsks allow action
action_asks allow ds t name action h =
    let l : LocalAt (action_in name) ds action = local_at (action_in name) ds action h in
    let p = control_parts allow ds t l.number l.control l.locals l.body l.here in
    record {
      before = take l.number ds;
      body = l.body;
      fine = local_asks allow (take l.number ds) l.body [] l.locals p.1 l.local.number (PlainLocal.OfAction action) (l.local.here ∙ ap Some (action_is name l.local.at action l.local.gives_it));
    }

-- its parameters have widths
pub param_wide : (allow : Bool) (ds : List PlainDecl) → Typed allow ds → (name : Name) (action : PlainAction) → action_of ds name ≡ Some action → (param : Param) → Contains action.params param → (1 ≤ param.width) × (param.width ≤ 128)
param_wide allow ds t name action h param c =
    let a : ActionAsks allow action = action_asks allow ds t name action h in
    let names = asks_names [] (option_names action.index ++ map param_name action.params) in
    let stmts = asks_stmts (in_action a.before a.body action) [] action.body in
    let p = parts allow names (flat_map asks_param action.params ++ stmts) a.fine in
    let q = parts allow (flat_map asks_param action.params) stmts p.1 in
    wide_is param.width (head_met allow (Wide param.width) [] (item_met allow asks_param action.params q.0 param c)).0

-- no control declares an action `NoAction`
action_given : (name : Name) (x : PlainLocal) (action : PlainAction) → action_in name x ≡ Some action → same name (local_name x) ≡ true
action_given name (PlainLocal.OfAction other) action h = by (same name other.name) h
  where
    by : (b : Bool) → (if b then Some other else None) ≡ Some action → b ≡ true
    by true k = refl
    by false k = cc
action_given name (PlainLocal.OfTable table) action h = cc

map_at : (xs : List PlainLocal) (i : ℕ) (x : PlainLocal) → slice_get xs i ≡ Some x → slice_get (map local_name xs) i ≡ Some (local_name x)
map_at [] i x e = cc
map_at (y ∷ ys) zero x e = let s : y ≡ x = cc in ap (λ z. Some (local_name z)) s
map_at (y ∷ ys) (suc i) x e = map_at ys i x e

pub no_action_is_undeclared : (allow : Bool) (ds : List PlainDecl) → Typed allow ds → action_of ds no_action_name ≡ None
unfolding fixed_names
no_action_is_undeclared allow ds t = by (action_of ds no_action_name) refl
  where
    by : (o : Option PlainAction) → action_of ds no_action_name ≡ o → o ≡ None
    by None e = refl
    by (Some action) e =
        let l : LocalAt (action_in no_action_name) ds action = local_at (action_in no_action_name) ds action e in
        let p = control_parts allow ds t l.number l.control l.locals l.body l.here in
        let n = (names_new allow [] (map local_name l.locals) p.0 l.local.number (local_name l.local.at) (map_at l.locals l.local.number l.local.at l.local.here)).1 in
        let s : no_action_name ≡ local_name l.local.at = same_text no_action_name (local_name l.local.at) (sym (action_given no_action_name l.local.at action l.local.gives_it)) in
        let fixed : among fixed_names no_action_name ≡ true = refl in
        absurd (true≢false (sym fixed ∙ ap (among fixed_names) s ∙ n))
