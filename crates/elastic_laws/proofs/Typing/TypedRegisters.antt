-- The registers of a typed program: what a unit names is declared, no two units name one register, a unit names one, and a
-- unit in a loop names one of an array.
use Rattle.std.proofs.Common.{◌≡◌, ◌≢◌, ℕ, zero, suc, ◌⊎◌, inl, inr, Bool, true, false, ◌&&◌, List, [], ◌∷◌, ◌++◌, map, take, Option, Some, None, refl, sym, ap, ◌∙◌, true≢false, arith}
use Rattle.std.proofs.lemmas.Bool.{and_from}
use Rattle.std.specs.Prelude.{if◌then◌else◌, flat_map, slice_get, Contains, is_some, ◌==◌}
use Rattle.std.specs.List.{list_all}
use Rattle.std.specs.Cmp.Lexicographic.{same_text}
use Rattle.std.proofs.lemmas.Bool.Decides.{nat_tests}
use Rattle.std.proofs.lemmas.List.Folds.{list_all-append}
use Rattle.elastic_ast.specs.declared.statements.Amount.{Amount}
use Rattle.elastic_ast.specs.declared.rule.Rule.TheVariants.{RegisterTwice}
use Rattle.elastic_ast.specs.declared.statements.Lval.{Lval}
use Rattle.elastic_ast.specs.declared.statements.RegRef.{RegRef}
use Rattle.elastic_ast.specs.Tree.{Name, PlainDecl, PlainExpr, PlainStmt, PlainStmts, PlainAction, PlainTable, PlainLocal}
use Rattle.elastic_ast.specs.Typing.Scope.{same, found, Scope, top}
use Rattle.elastic_ast.specs.Typing.LookUps.{register_size_in, register_size, action_in, table_in}
use Rattle.elastic_ast.specs.Typing.Types.{lval_type}
use Rattle.elastic_ast.specs.Typing.Demand.{Demand, Known, Alike, first_broken}
use Rattle.elastic_ast.specs.Typing.AskedOfNames.{asks_names}
use Rattle.elastic_ast.specs.Typing.AskedInExpressions.{asks_index, asks_lval, asks_bits, asks_truth}
use Rattle.elastic_ast.specs.Typing.AskedInStatements.{asks_register, asks_register_of, register_type, asks_cell, asks_read, asks_write, asks_loop, in_loop, asks_stmt, asks_stmts}
use Rattle.elastic_ast.specs.Typing.AskedInLocals.{option_names, param_name, asks_param, in_action, asks_action}
use Rattle.elastic_ast.specs.Typing.NamedRegisters.{plain_registers, body_registers, registers_of_action, registers_of_table, action_registers, table_registers, Naming, unit_registers, units_registers, registers_in, named_registers, UnitNames, IsLooped, is_array, NamedTwice}
use Rattle.elastic_ast.specs.Typing.Typed.{Typed}
use Rattle.elastic_laws.proofs.Typing.TypedFacts.{taken, parts, head_met, FoundAt, found_at, control_parts}
use Rattle.elastic_ast.proofs.Typing.SameNames.{same_self}
use Rattle.elastic_laws.proofs.Typing.TypedTables.{local_asks, action_is}

-- the register is declared
abbrev pub is_register : List PlainDecl → Name → Bool
is_register before register = is_some (register_size before register)

abbrev pub are_registers : List PlainDecl → List Name → Bool
are_registers before names = list_all (is_register before) names

abbrev pub names_registers : List PlainDecl → Naming → Bool
names_registers before naming = are_registers before naming.1

pub register_known : (allow : Bool) (s : Scope) (o : Option (Option Name)) (index : Option Name) → first_broken allow (asks_register s o index) ≡ None → is_some o ≡ true
register_known allow s None index h = absurd (true≢false (sym (head_met allow (Known false) (asks_index s index) h).0))
register_known allow s (Some size) index h = refl

read_known : (allow : Bool) (s : Scope) (to : Lval) (register : RegRef) (cell : PlainExpr) → first_broken allow (asks_read s to register cell) ≡ None → is_register s.before register.name ≡ true
read_known allow s to register cell h =
    let last : List Demand = Alike (lval_type s.before to) (register_type s register) ∷ [] in
    let p = parts allow (asks_lval s to) (asks_register_of s register ++ (asks_cell s cell ++ last)) h in
    register_known allow s (register_size s.before register.name) register.index (parts allow (asks_register_of s register) (asks_cell s cell ++ last) p.1).0

write_known : (allow : Bool) (s : Scope) (register : RegRef) (cell value : PlainExpr) → first_broken allow (asks_write s register cell value) ≡ None → is_register s.before register.name ≡ true
write_known allow s register cell value h =
    register_known allow s (register_size s.before register.name) register.index (parts allow (asks_register_of s register) (asks_cell s cell ++ asks_bits s value (register_type s register)) h).0

plain_known : (allow : Bool) (s : Scope) (locals : List PlainLocal) (x : PlainStmt) → first_broken allow (asks_stmt s locals x) ≡ None → are_registers s.before (plain_registers x) ≡ true
plain_known allow s locals (PlainStmt.Read to register cell) h = and_from (is_register s.before register.name) true (read_known allow s to register cell h) refl
plain_known allow s locals (PlainStmt.Write register cell value) h = and_from (is_register s.before register.name) true (write_known allow s register cell value h) refl
plain_known allow s locals other h = refl

body_known : (allow : Bool) (s : Scope) (locals : List PlainLocal) (xs : PlainStmts) → first_broken allow (asks_stmts s locals xs) ≡ None → are_registers s.before (body_registers xs) ≡ true
body_known allow s locals PlainStmts.nil h = refl
body_known allow s locals (PlainStmts.cons x xs) h =
    let p = parts allow (asks_stmt s locals x) (asks_stmts s locals xs) h in
    list_all-append (is_register s.before) (plain_registers x) (body_registers xs)
    ∙ and_from (are_registers s.before (plain_registers x)) (are_registers s.before (body_registers xs)) (plain_known allow s locals x p.0) (body_known allow s locals xs p.1)

-- each action among some actions and tables asks nothing that isn't so
abbrev Actions : Bool → List PlainDecl → PlainStmts → List PlainLocal → Type 0
Actions allow before body locals = (name : Name) (action : PlainAction) → found (action_in name) locals ≡ Some action → first_broken allow (asks_action before body action) ≡ None

module _ (allow : Bool) (before : List PlainDecl) (body : PlainStmts) (locals : List PlainLocal) (actions : Actions allow before body locals) where
  action_known_as : (name : Name) (o : Option PlainAction) → found (action_in name) locals ≡ o → are_registers before (registers_of_action o) ≡ true
  action_known_as name None e = refl
  action_known_as name (Some action) e =
      let names = asks_names [] (option_names action.index ++ map param_name action.params) in
      let params = flat_map asks_param action.params in
      let stmts = asks_stmts (in_action before body action) [] action.body in
      let p = parts allow names (params ++ stmts) (actions name action e) in
      body_known allow (in_action before body action) [] action.body (parts allow params stmts p.1).1

  action_known : (name : Name) → are_registers before (action_registers locals name) ≡ true
  action_known name = action_known_as name (found (action_in name) locals) refl

  actions_known : (names : List Name) → are_registers before (flat_map (action_registers locals) names) ≡ true
  actions_known [] = refl
  actions_known (name ∷ names) =
      list_all-append (is_register before) (action_registers locals name) (flat_map (action_registers locals) names)
      ∙ and_from (are_registers before (action_registers locals name)) (are_registers before (flat_map (action_registers locals) names)) (action_known name) (actions_known names)

  table_known : (o : Option PlainTable) → are_registers before (registers_of_table locals o) ≡ true
  table_known None = refl
  table_known (Some table) = actions_known table.actions

  abbrev AreKnown : List Naming → Type 0
  AreKnown units = list_all (names_registers before) units ≡ true

  known_both : (xs ys : List Naming) → AreKnown xs → AreKnown ys → AreKnown (xs ++ ys)
  known_both xs ys h k = list_all-append (names_registers before) xs ys ∙ and_from (list_all (names_registers before) xs) (list_all (names_registers before) ys) h k

  known_one : (looped : Bool) (names : List Name) → are_registers before names ≡ true → AreKnown ((looped, names) ∷ [])
  known_one looped names h = and_from (are_registers before names) true h refl

  mutual
    unit_known : (s : Scope) → s.before ≡ before → (looped : Bool) (x : PlainStmt) → first_broken allow (asks_stmt s locals x) ≡ None → AreKnown (unit_registers locals looped x)
    unit_known s e looped (PlainStmt.Block stage xs) h = units_known s e looped xs h
    unit_known s e looped (PlainStmt.If condition xs) h = units_known s e looped xs (parts allow (asks_truth s condition) (asks_stmts s locals xs) h).1
    unit_known s e looped (PlainStmt.IfElse condition xs ys) h =
        let p = parts allow (asks_truth s condition) (asks_stmts s locals xs ++ asks_stmts s locals ys) h in
        let q = parts allow (asks_stmts s locals xs) (asks_stmts s locals ys) p.1 in
        known_both (units_registers locals looped xs) (units_registers locals looped ys) (units_known s e looped xs q.0) (units_known s e looped ys q.1)
    unit_known s e looped (PlainStmt.For index size xs) h = units_known (in_loop s index size) e true xs (parts allow (asks_loop s index size) (asks_stmts (in_loop s index size) locals xs) h).1
    unit_known s e looped (PlainStmt.Call action index args) h = known_one looped (action_registers locals action) (action_known action)
    unit_known s e looped (PlainStmt.Apply table) h = known_one looped (table_registers locals table) (table_known (found (table_in table) locals))
    unit_known s e looped (PlainStmt.Assign to value) h = refl
    unit_known s e looped (PlainStmt.Valid header on) h = refl
    unit_known s e looped (PlainStmt.Read to register cell) h =
        known_one looped (register.name ∷ []) (ap (λ z. are_registers z (register.name ∷ [])) (sym e) ∙ plain_known allow s locals (PlainStmt.Read to register cell) h)
    unit_known s e looped (PlainStmt.Write register cell value) h =
        known_one looped (register.name ∷ []) (ap (λ z. are_registers z (register.name ∷ [])) (sym e) ∙ plain_known allow s locals (PlainStmt.Write register cell value) h)

    pub units_known : (s : Scope) → s.before ≡ before → (looped : Bool) (xs : PlainStmts) → first_broken allow (asks_stmts s locals xs) ≡ None → AreKnown (units_registers locals looped xs)
    units_known s e looped PlainStmts.nil h = refl
    units_known s e looped (PlainStmts.cons x xs) h =
        let p = parts allow (asks_stmt s locals x) (asks_stmts s locals xs) h in
        known_both (unit_registers locals looped x) (units_registers locals looped xs) (unit_known s e looped x p.0) (units_known s e looped xs p.1)

-- where the unit of a number stands
pub record UnitAt (ds : List PlainDecl) (naming : Naming) : Type 0 where
  pub number : ℕ
  pub control : Name
  pub locals : List PlainLocal
  pub body : PlainStmts
  pub here : slice_get ds number ≡ Some (PlainDecl.Control control locals body)
  pub unit : ℕ
  pub there : slice_get (units_registers locals false body) unit ≡ Some naming

-- an element of two lists in a row is in one of them
in_either : {A : Type 0} (xs ys : List A) (i : ℕ) (x : A) → slice_get (xs ++ ys) i ≡ Some x → ((j : ℕ) × (slice_get xs j ≡ Some x)) ⊎ ((j : ℕ) × (slice_get ys j ≡ Some x))
in_either [] ys i x e = inr (i, e)
in_either (z ∷ xs) ys zero x e = inl (0, e)
in_either (z ∷ xs) ys (suc i) x e = by (in_either xs ys i x e)
  where
    by : ((j : ℕ) × (slice_get xs j ≡ Some x)) ⊎ ((j : ℕ) × (slice_get ys j ≡ Some x)) → ((j : ℕ) × (slice_get (z ∷ xs) j ≡ Some x)) ⊎ ((j : ℕ) × (slice_get ys j ≡ Some x))
    by (inl (j, f)) = inl (suc j, f)
    by (inr p) = inr p

unit_in : (x : PlainDecl) (j : ℕ) (naming : Naming) → slice_get (registers_in x) j ≡ Some naming → (control : Name) × (locals : List PlainLocal) × (body : PlainStmts) × (x ≡ PlainDecl.Control control locals body) × (slice_get (units_registers locals false body) j ≡ Some naming)
unit_in (PlainDecl.Control control locals body) j naming e = (control, locals, body, refl, e)
unit_in other j naming e = cc

pub unit_at : (ds : List PlainDecl) (u : ℕ) (naming : Naming) → slice_get (named_registers ds) u ≡ Some naming → UnitAt ds naming
unit_at [] u naming e = cc
unit_at (x ∷ ds) u naming e = by (in_either (registers_in x) (named_registers ds) u naming e) (λ j f. unit_at ds j naming f)
  where
    by : ((j : ℕ) × (slice_get (registers_in x) j ≡ Some naming)) ⊎ ((j : ℕ) × (slice_get (named_registers ds) j ≡ Some naming)) → ((j : ℕ) → slice_get (named_registers ds) j ≡ Some naming → UnitAt ds naming) → UnitAt (x ∷ ds) naming
    by (inl (j, f)) ih = let p = unit_in x j naming f in record { number = 0; control = p.0; locals = p.1; body = p.2; here = ap Some p.3; unit = j; there = p.4 }
    by (inr (j, f)) ih = let p : UnitAt ds naming = ih j f in record { number = suc p.number; control = p.control; locals = p.locals; body = p.body; here = p.here; unit = p.unit; there = p.there }

each_is : {A : Type 0} (f : A → Bool) (xs : List A) → list_all f xs ≡ true → (i : ℕ) (x : A) → slice_get xs i ≡ Some x → f x ≡ true
each_is f [] h i x e = cc
each_is f (y ∷ ys) h zero x e = let s : y ≡ x = cc in ap f (sym s) ∙ first (f y) (list_all f ys) h
  where
    first : (a b : Bool) → (a && b) ≡ true → a ≡ true
    first true b k = refl
    first false b k = cc
each_is f (y ∷ ys) h (suc i) x e = each_is f ys (rest (f y) (list_all f ys) h) i x e
  where
    rest : (a b : Bool) → (a && b) ≡ true → b ≡ true
    rest true b k = k
    rest false b k = cc

each_in : (f : Name → Bool) (xs : List Name) → list_all f xs ≡ true → (x : Name) → Contains xs x → f x ≡ true
each_in f [] h x c = absurd (omega arith)
each_in f (y ∷ ys) h x (zero, k, e) = ap f (sym e) ∙ each_is f (y ∷ ys) h 0 y refl
each_in f (y ∷ ys) h x (suc i, k, e) = each_in f ys (rest (f y) (list_all f ys) h) x (i, omega arith, e)
  where
    rest : (a b : Bool) → (a && b) ≡ true → b ≡ true
    rest true b k = k
    rest false b k = cc

-- the declaration of a register
pub record RegisterAt (ds : List PlainDecl) (register : Name) : Type 0 where
  pub number : ℕ
  pub width : ℕ
  pub cells : Amount
  pub size : Option Name
  pub here : slice_get ds number ≡ Some (PlainDecl.Register register width cells size)

size_given : (name : Name) (x : PlainDecl) (size : Option Name) → register_size_in name x ≡ Some size → (width : ℕ) × (cells : Amount) × (other : Option Name) × (x ≡ PlainDecl.Register name width cells other)
size_given name (PlainDecl.Register register width cells other) size h = by (same name register) refl h
  where
    by : (b : Bool) → same name register ≡ b → (if b then Some other else None) ≡ Some size → (w : ℕ) × (c : Amount) × (o : Option Name) × (PlainDecl.Register register width cells other ≡ PlainDecl.Register name w c o)
    by true e k = (width, cells, other, ap (λ z. PlainDecl.Register z width cells other) (sym (same_text name register (sym e))))
    by false e k = cc
size_given name other size h = cc

declared_in : (n : ℕ) (ds : List PlainDecl) (register : Name) (o : Option (Option Name)) → register_size (take n ds) register ≡ o → is_some o ≡ true → RegisterAt ds register
declared_in n ds register None f h = absurd (true≢false (sym h))
declared_in n ds register (Some size) f h =
    let at : FoundAt (register_size_in register) (take n ds) size = found_at (register_size_in register) (take n ds) size f in
    let g = size_given register at.at size at.gives_it in
    record { number = at.number; width = g.0; cells = g.1; size = g.2; here = taken n ds at.number at.at at.here ∙ ap Some g.3 }

-- what a unit names is a declared register
pub named_is_declared : (allow : Bool) (ds : List PlainDecl) → Typed allow ds → (u : ℕ) (register : Name) → UnitNames ds u register → RegisterAt ds register
named_is_declared allow ds t u register (naming, e, c) =
    let p : UnitAt ds naming = unit_at ds u naming e in
    let before = take p.number ds in
    let q = control_parts allow ds t p.number p.control p.locals p.body p.here in
    let actions : Actions allow before p.body p.locals =
    λ name action f.
    let at : FoundAt (action_in name) p.locals action = found_at (action_in name) p.locals action f in
    local_asks allow before p.body [] p.locals q.1 at.number (PlainLocal.OfAction action) (at.here ∙ ap Some (action_is name at.at action at.gives_it))
    in
    let all = units_known allow before p.body p.locals actions (top before) refl false p.body q.2 in
    let known : is_register before register ≡ true = each_in (is_register before) naming.1 (each_is (names_registers before) (units_registers p.locals false p.body) all p.unit naming p.there) register c in
    declared_in p.number ds register (register_size before register) refl known

not_named_twice : (allow : Bool) (ds : List PlainDecl) → Typed allow ds → (u : ℕ) (register : Name) → UnitNames ds u register → NamedTwice ds register → ⊥
not_named_twice allow ds t u register n twice =
    let r : RegisterAt ds register = named_is_declared allow ds t u register n in
    t RegisterTwice r.number (PlainDecl.Register register r.width r.cells r.size, r.here, inr twice)

-- no two units name one register
pub registers_apart : (allow : Bool) (ds : List PlainDecl) → Typed allow ds → (u v : ℕ) (register : Name) → UnitNames ds u register → UnitNames ds v register → u ≡ v
registers_apart allow ds t u v register n m = by (u == v) refl
  where
    by : (b : Bool) → (u == v) ≡ b → u ≡ v
    by true e = grind (arith, nat_tests)
    by false e = let d : u ≢ v = (λ k. true≢false (sym (ap (λ z. z == v) k ∙ same_number v) ∙ e)) in absurd (not_named_twice allow ds t u register n (inl (u, v, n, m, d)))
      where
        same_number : (w : ℕ) → (w == w) ≡ true
        same_number w = grind (arith, nat_tests)

-- a unit names one register
pub registers_alone : (allow : Bool) (ds : List PlainDecl) → Typed allow ds → (u : ℕ) (one other : Name) → UnitNames ds u one → UnitNames ds u other → one ≡ other
registers_alone allow ds t u one other n m = by (same one other) refl
  where
    by : (b : Bool) → same one other ≡ b → one ≡ other
    by true e = same_text one other (sym e)
    by false e = let d : one ≢ other = (λ k. true≢false (sym (ap (λ z. same z other) k ∙ same_self other) ∙ e)) in absurd (not_named_twice allow ds t u other m (inr (inr (u, one, m, n, d))))

-- one that a unit in a loop names is one of an array
pub looped_is_array : (allow : Bool) (ds : List PlainDecl) → Typed allow ds → (u : ℕ) (register : Name) → UnitNames ds u register → IsLooped ds u → is_array ds register ≡ true
looped_is_array allow ds t u register n l = by (is_array ds register) refl
  where
    by : (b : Bool) → is_array ds register ≡ b → b ≡ true
    by true e = refl
    by false e = absurd (not_named_twice allow ds t u register n (inr (inl (u, n, l, e))))
