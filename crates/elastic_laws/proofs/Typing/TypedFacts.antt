-- What a typed program has: its demands are met, and what follows for its loops, tables, headers, names and widths.
use Rattle.std.proofs.Common.{◌≡◌, ℕ, zero, suc, ◌≤◌, inl, Bool, true, false, List, [], ◌∷◌, ◌++◌, map, take, Option, Some, None, refl, sym, ap, ◌∙◌, true≢false, arith}
use Rattle.std.proofs.lemmas.Bool.{and_parts}
use Rattle.std.specs.Prelude.{if◌then◌else◌, slice_get, Contains, is_some, is_none, option_and_then, unwrap_or, nat_le}
use Rattle.std.proofs.lemmas.Bool.Decides.{nat_tests}
use Rattle.elastic_ast.specs.declared.rule.Rule.{Rule}
use Rattle.elastic_ast.specs.Tree.{Name, PlainDecl, PlainStmt, PlainStmts, PlainLocal}
use Rattle.elastic_ast.specs.Typing.Scope.{same, or_else, found, is_symbol, Scope, top}
use Rattle.elastic_ast.specs.Typing.Types.{Bits, Unknown, is_width, bits_of}
use Rattle.elastic_ast.specs.Typing.Demand.{Demand, Known, Alone, First, met, rule_of, first_broken}
use Rattle.elastic_ast.specs.Packets.MainParts.{Main, main_in, control_in, body_of}
use Rattle.elastic_ast.specs.Typing.AskedOfNames.{asks_names, top_name, top_names}
use Rattle.elastic_ast.specs.Typing.AskedInExpressions.{asks_truth}
use Rattle.elastic_ast.specs.Typing.AskedInStatements.{asks_loop, in_loop, asks_stmt, asks_stmts}
use Rattle.elastic_ast.specs.Typing.AskedInLocals.{asks_locals, local_name}
use Rattle.elastic_ast.specs.Typing.Asked.{asks_structs, asks_decl, is_first, asked}
use Rattle.elastic_ast.specs.Typing.Typed.{Typed}
use Rattle.elastic_laws.specs.Typing.Unnested.{UnnestedStmt, Unnested}
use Rattle.elastic_ast.proofs.Typing.First.{first-append}
use Rattle.elastic_ast.proofs.Typing.TypedLaws.{none_both}

-- each demand of a typed program is met
pub typed_meets : (allow : Bool) (ds : List PlainDecl) → Typed allow ds → (d : ℕ) (x : PlainDecl) → slice_get ds d ≡ Some x → (q : Demand) → Contains (asked (take d ds) x) q → met allow q ≡ true
typed_meets allow ds t d x e q c = by (met allow q) refl
  where
    by : (b : Bool) → met allow q ≡ b → b ≡ true
    by true m = refl
    by false m = absurd (t (rule_of q) d (x, e, inl (q, c, refl, m)))

all_fine : (allow : Bool) (qs : List Demand) → ((q : Demand) → Contains qs q → met allow q ≡ true) → first_broken allow qs ≡ None
all_fine allow [] h = refl
all_fine allow (q ∷ qs) h =
    ap (λ b. if b then first_broken allow qs else Some (rule_of q)) (h q (0, omega arith, refl))
    ∙ all_fine allow qs (λ p c. h p (suc c.0, omega (arith, c.1), c.2))

pub typed_asks : (allow : Bool) (ds : List PlainDecl) → Typed allow ds → (d : ℕ) (x : PlainDecl) → slice_get ds d ≡ Some x → first_broken allow (asked (take d ds) x) ≡ None
typed_asks allow ds t d x e = all_fine allow (asked (take d ds) x) (typed_meets allow ds t d x e)

pub parts : (allow : Bool) (xs ys : List Demand) → first_broken allow (xs ++ ys) ≡ None → (first_broken allow xs ≡ None) × (first_broken allow ys ≡ None)
parts allow xs ys h = none_both (first_broken allow xs) (first_broken allow ys) (sym (first-append allow xs ys) ∙ h)

if_met : (b : Bool) (r : Rule) (o : Option Rule) → (if b then o else Some r) ≡ None → (b ≡ true) × (o ≡ None)
if_met true r o h = (refl, h)
if_met false r o h = cc

pub head_met : (allow : Bool) (q : Demand) (qs : List Demand) → first_broken allow (q ∷ qs) ≡ None → (met allow q ≡ true) × (first_broken allow qs ≡ None)
head_met allow q qs h = if_met (met allow q) (rule_of q) (first_broken allow qs) h

-- what each declaration asks is met; the rules of the whole program may be broken
abbrev pub IsMet : Bool → List PlainDecl → Type 0
IsMet allow ds = (d : ℕ) (x : PlainDecl) → slice_get ds d ≡ Some x → first_broken allow (asked (take d ds) x) ≡ None

-- what a declaration asks beside its name
pub met_own : (allow : Bool) (ds : List PlainDecl) → IsMet allow ds → (d : ℕ) (x : PlainDecl) → slice_get ds d ≡ Some x → first_broken allow (asks_decl (take d ds) x) ≡ None
met_own allow ds t d x e =
    (head_met allow (First (is_first (take d ds) x)) (asks_decl (take d ds) x)
    (parts allow (asks_names (top_names (take d ds)) (top_name x)) (First (is_first (take d ds) x) ∷ asks_decl (take d ds) x) (t d x e)).1).1

pub typed_own : (allow : Bool) (ds : List PlainDecl) → Typed allow ds → (d : ℕ) (x : PlainDecl) → slice_get ds d ≡ Some x → first_broken allow (asks_decl (take d ds) x) ≡ None
typed_own allow ds t d x e = met_own allow ds (typed_asks allow ds t) d x e

-- a front of the declarations asks no more than all of them
pub taken : (n : ℕ) (ds : List PlainDecl) (i : ℕ) (x : PlainDecl) → slice_get (take n ds) i ≡ Some x → slice_get ds i ≡ Some x
taken zero ds i x e = cc
taken (suc n) [] i x e = cc
taken (suc n) (d ∷ ds) zero x e = e
taken (suc n) (d ∷ ds) (suc i) x e = taken n ds i x e

take_take : (n : ℕ) (ds : List PlainDecl) (i : ℕ) (x : PlainDecl) → slice_get (take n ds) i ≡ Some x → take i (take n ds) ≡ take i ds
take_take zero ds i x e = cc
take_take (suc n) [] i x e = cc
take_take (suc n) (d ∷ ds) zero x e = refl
take_take (suc n) (d ∷ ds) (suc i) x e = ap (λ z. d ∷ z) (take_take n ds i x e)

pub front_met : (allow : Bool) (ds : List PlainDecl) → IsMet allow ds → (n : ℕ) → IsMet allow (take n ds)
front_met allow ds t n d x e = ap (λ z. first_broken allow (asked z x)) (take_take n ds d x e) ∙ t d x (taken n ds d x e)

pub wide_bits : (width : ℕ) → is_width width ≡ true → bits_of width ≡ Bits width
wide_bits width h = ap (λ b. if b then Bits width else Unknown) h

pub wide_is : (width : ℕ) → is_width width ≡ true → (1 ≤ width) × (width ≤ 128)
wide_is width h =
    let a : nat_le 1 width ≡ true = (and_parts (nat_le 1 width) (nat_le width 128) h).0 in
    let b : nat_le width 128 ≡ true = (and_parts (nat_le 1 width) (nat_le width 128) h).1 in
    (grind (arith, nat_tests), grind (arith, nat_tests))

-- what a look-up finds, and where
pub record FoundAt {A B : Type 0} (gives : A → Option B) (xs : List A) (given : B) : Type 0 where
  pub number : ℕ
  pub at : A
  pub here : slice_get xs number ≡ Some at
  pub gives_it : gives at ≡ Some given

pub found_at : {A B : Type 0} (gives : A → Option B) (xs : List A) (given : B) → found gives xs ≡ Some given → FoundAt gives xs given
found_at gives [] given h = cc
found_at gives (x ∷ xs) given h = by (gives x) refl h (found_at gives xs given)
  where
    by : (o : Option _) → gives x ≡ o → or_else o (found gives xs) ≡ Some given → (found gives xs ≡ Some given → FoundAt gives xs given) → FoundAt gives (x ∷ xs) given
    by (Some y) e k ih = record { number = 0; at = x; here = refl; gives_it = e ∙ k }
    by None e k ih = let f : FoundAt gives xs given = ih k in record { number = suc f.number; at = f.at; here = f.here; gives_it = f.gives_it }

-- no loop stands in a loop
alone : (o : Option Name) → is_none o ≡ true → is_some o ≡ false
alone None h = refl
alone (Some x) h = absurd (true≢false (sym h))

mutual
  stmt_unnested : (allow : Bool) (s : Scope) (locals : List PlainLocal) (x : PlainStmt) → first_broken allow (asks_stmt s locals x) ≡ None → UnnestedStmt x (is_some s.index)
  stmt_unnested allow s locals (PlainStmt.Block stage body) h = stmts_unnested allow s locals body h
  stmt_unnested allow s locals (PlainStmt.If condition body) h = stmts_unnested allow s locals body (parts allow (asks_truth s condition) (asks_stmts s locals body) h).1
  stmt_unnested allow s locals (PlainStmt.IfElse condition body other) h =
      let p = parts allow (asks_truth s condition) (asks_stmts s locals body ++ asks_stmts s locals other) h in
      let q = parts allow (asks_stmts s locals body) (asks_stmts s locals other) p.1 in
      (stmts_unnested allow s locals body q.0, stmts_unnested allow s locals other q.1)
  stmt_unnested allow s locals (PlainStmt.For index size body) h =
      let p = parts allow (asks_loop s index size) (asks_stmts (in_loop s index size) locals body) h in
      (alone s.index (head_met allow (Alone (is_none s.index)) (Known (is_symbol s.before size) ∷ asks_names [] (index ∷ [])) p.0).0, stmts_unnested allow (in_loop s index size) locals body p.1)
  stmt_unnested allow s locals other h = tt

  stmts_unnested : (allow : Bool) (s : Scope) (locals : List PlainLocal) (xs : PlainStmts) → first_broken allow (asks_stmts s locals xs) ≡ None → Unnested xs (is_some s.index)
  stmts_unnested allow s locals PlainStmts.nil h = tt
  stmts_unnested allow s locals (PlainStmts.cons x xs) h =
      let p = parts allow (asks_stmt s locals x) (asks_stmts s locals xs) h in
      (stmt_unnested allow s locals x p.0, stmts_unnested allow s locals xs p.1)

-- what the control asks, part by part
pub control_parts : (allow : Bool) (ds : List PlainDecl) → Typed allow ds → (d : ℕ) (name : Name) (locals : List PlainLocal) (body : PlainStmts) → slice_get ds d ≡ Some (PlainDecl.Control name locals body)
    → (first_broken allow (asks_names [] (map local_name locals)) ≡ None) × (first_broken allow (asks_locals (take d ds) body [] locals) ≡ None) × (first_broken allow (asks_stmts (top (take d ds)) locals body) ≡ None)
control_parts allow ds t d name locals body e =
    let before = take d ds in
    let names = asks_names [] (map local_name locals) in
    let inner = asks_locals before body [] locals in
    let stmts = asks_stmts (top before) locals body in
    let p = parts allow (asks_structs before) (names ++ (inner ++ stmts)) (typed_own allow ds t d (PlainDecl.Control name locals body) e) in
    let q = parts allow names (inner ++ stmts) p.1 in
    let r = parts allow inner stmts q.1 in
    (q.0, r.0, r.1)

pub control_unnested : (allow : Bool) (ds : List PlainDecl) → Typed allow ds → (d : ℕ) (name : Name) (locals : List PlainLocal) (body : PlainStmts) → slice_get ds d ≡ Some (PlainDecl.Control name locals body) → Unnested body false
control_unnested allow ds t d name locals body e = stmts_unnested allow (top (take d ds)) locals body (control_parts allow ds t d name locals body e).2

pub if_some : {A : Type 0} (b : Bool) (x y : A) → (if b then Some x else None) ≡ Some y → x ≡ y
if_some true x y h = cc
if_some false x y h = cc

control_given : (name : Name) (x : PlainDecl) (body : PlainStmts) → control_in name x ≡ Some body → (control : Name) × (locals : List PlainLocal) × (x ≡ PlainDecl.Control control locals body)
control_given name (PlainDecl.Control control locals other) body h = (control, locals, ap (PlainDecl.Control control locals) (if_some (same name control) other body h))
control_given name other body h = cc

-- the control's body, which `main` names, is that of a declared control, or there is none
pub body_unnested : (allow : Bool) (ds : List PlainDecl) → Typed allow ds → Unnested (body_of ds) false
body_unnested allow ds t = by (found main_in ds)
  where
    here : (name : Name) (o : Option PlainStmts) → found (control_in name) ds ≡ o → Unnested (unwrap_or o PlainStmts.nil) false
    here name None e = tt
    here name (Some body) e =
        let f : FoundAt (control_in name) ds body = found_at (control_in name) ds body e in
        let g = control_given name f.at body f.gives_it in
        control_unnested allow ds t f.number g.0 g.1 body (f.here ∙ ap Some g.2)

    by : (o : Option Main) → Unnested (unwrap_or (option_and_then (λ (main : Main). found (control_in main.1) ds) o) PlainStmts.nil) false
    by None = tt
    by (Some main) = here main.1 (found (control_in main.1) ds) refl
