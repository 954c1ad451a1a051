-- The pieces of a typed program's body: loops are over symbols, and what a piece names fits the loop around it.
use Rattle.std.proofs.Common.{◌≡◌, ℕ, zero, suc, ◌+◌, ◌==◌, inl, inr, Bool, true, false, List, [], ◌∷◌, ◌++◌, length, take, drop, Option, Some, None, is_some, refl, sym, ap, subst, ◌∙◌, true≢false}
use Rattle.std.specs.Prelude.{if◌then◌else◌, map, flat_map, slice_get, option_map, option_and_then, unwrap_or, is_none}
use Rattle.std.proofs.lemmas.Bool.{or_left, or_right}
use Rattle.std.proofs.lemmas.List.Folds.{list_any-append}
use Rattle.elastic_ast.specs.declared.flat.Lit.{Lit}
use Rattle.elastic_ast.specs.declared.flat.Location.{Location}
use Rattle.elastic_ast.specs.Tree.{Name, PlainDecl, PlainExpr, PlainStmt, PlainStmts, PlainAction, PlainTable, PlainLocal}
use Rattle.elastic_ast.specs.Typing.Scope.{same, among, or_else, found, is_symbol, Scope, top}
use Rattle.elastic_ast.specs.Typing.LookUps.{action_in, action_of, table_in, table_of}
use Rattle.elastic_ast.specs.Typing.Demand.{Known, Alone, Called, NoRegister, first_broken}
use Rattle.elastic_ast.specs.Typing.AskedOfNames.{asks_names}
use Rattle.elastic_ast.specs.Typing.AskedInExpressions.{asks_truth}
use Rattle.elastic_ast.specs.Typing.AskedInStatements.{no_action_name, no_action, action_among, calling_sizes, calling_sizes_in, is_called, asks_call, asks_loop, in_loop, asks_stmt, asks_stmts}
use Rattle.elastic_ast.specs.Typing.AskedInLocals.{option_names, param_name, asks_param, in_action, asks_action, asks_key, asks_listed, asks_size, asks_entry, asks_fallback, asks_table}
use Rattle.elastic_ast.specs.Typing.NamedRegisters.{body_registers}
use Rattle.elastic_ast.specs.Typing.Typed.{Typed}
use Rattle.elastic_ast.specs.Packets.MainParts.{Main, main_in, control_in}
use Rattle.elastic_ast.specs.Units.PlainUnits.{PlainWork, Plain, Call, Apply, Pred}
use Rattle.elastic_ast.specs.Units.Cuts.{Piece, Cuts, Nil, One, Loop, append, tests, literal, lit_put, with_lit, single, branched, guarded, cut, cut_all}
use Rattle.elastic_ast.specs.Units.Reach.{exprs_read, expr_reads, plain_reads, plain_assigns, action_reads, action_assigns, entries_read, fallback_reads, keys_read, actions_read, actions_assign, table_reads, table_assigns, leaf_reads, leaf_assigns, work_reads}
use Rattle.elastic_ast.specs.Units.UnitsOf.{cuts_of}
use Rattle.elastic_ast.proofs.Typing.SameNames.{same_self, same_told}
use Rattle.elastic_laws.proofs.Typing.TypedFacts.{parts, head_met, FoundAt, found_at, control_parts, if_some}
use Rattle.elastic_laws.proofs.Typing.TypedTables.{local_asks, action_is, no_action_is_undeclared}
use Rattle.elastic_laws.proofs.Typing.TypedStays.{found_stays}
use Rattle.elastic_laws.proofs.Typing.TypedSymbols.{symbol_of_all, loop_is_over_symbol}
use Rattle.elastic_laws.proofs.Units.EachUnit.{AllBy, all_both}
use Rattle.unit_flow.proofs.StandLaws.{AllStand, Fits, IsAround, all_fit, truth_stands, own_stands, body_stands, call_stands, called_so, entries_stand, fallback_stands, keys_stand}
use Rattle.unit_flow.proofs.ControlLaws.{locals_are}

-- what the work may assign, predicates aside
abbrev pub AssignsFit : List PlainDecl → Option Name → PlainWork → Type 0
AssignsFit decls loop (Plain statement) = AllBy (Fits decls loop) (leaf_assigns decls statement)
AssignsFit decls loop (Call statement) = AllBy (Fits decls loop) (leaf_assigns decls statement)
AssignsFit decls loop (Apply table) = AllBy (Fits decls loop) (leaf_assigns decls (PlainStmt.Apply table))
AssignsFit decls loop (Pred number condition) = Unit {0}

pub record PieceFits (decls : List PlainDecl) (loop : Option Name) (piece : Piece) : Type 0 where
  pub conds : AllBy (Fits decls loop) (exprs_read piece.conds)
  pub reads : AllBy (Fits decls loop) (work_reads decls piece.work)
  pub assigns : AssignsFit decls loop piece.work

-- no loop stands in a loop, and each is over a symbol
abbrev pub CutsFit : List PlainDecl → Option Name → Cuts → Type 0
CutsFit decls loop Nil = Unit {0}
CutsFit decls loop (One piece rest) = PieceFits decls loop piece × CutsFit decls loop rest
CutsFit decls None (Loop index size inner rest) = (is_symbol decls size ≡ true) × CutsFit decls (Some size) inner × CutsFit decls None rest
CutsFit decls (Some around) (Loop index size inner rest) = ⊥

module _ (decls : List PlainDecl) where
  append_fits : (loop : Option Name) (cuts others : Cuts) → CutsFit decls loop cuts → CutsFit decls loop others → CutsFit decls loop (append cuts others)
  append_fits loop Nil others h g = g
  append_fits loop (One piece rest) others h g = (h.0, append_fits loop rest others h.1 g)
  append_fits None (Loop index size inner rest) others h g = (h.0, h.1, append_fits None rest others h.2 g)
  append_fits (Some around) (Loop index size inner rest) others h g = absurd h

  put_fits : (loop : Option Name) (lit : Lit) (piece : Piece) (work : PlainWork) → PieceFits decls loop piece → PieceFits decls loop (lit_put lit work piece)
  put_fits loop lit piece (Plain statement) h = record { conds = h.conds; reads = h.reads; assigns = h.assigns }
  put_fits loop lit piece (Call statement) h = record { conds = h.conds; reads = h.reads; assigns = h.assigns }
  put_fits loop lit piece (Apply table) h = record { conds = h.conds; reads = h.reads; assigns = h.assigns }
  put_fits loop lit piece (Pred number condition) h = h

  lit_fits : (loop : Option Name) (lit : Lit) (cuts : Cuts) → CutsFit decls loop cuts → CutsFit decls loop (with_lit lit cuts)
  lit_fits loop lit Nil h = tt
  lit_fits loop lit (One piece rest) h = (put_fits loop lit piece piece.work h.0, lit_fits loop lit rest h.1)
  lit_fits None lit (Loop index size inner rest) h = (h.0, lit_fits (Some size) lit inner h.1, lit_fits None lit rest h.2)
  lit_fits (Some around) lit (Loop index size inner rest) h = absurd h

  branched_fits : (loop : Option Name) (condition : PlainExpr) (own : Bool) (number : ℕ) (stage : Option ℕ) (first other : Cuts) → AllBy (Fits decls loop) (expr_reads condition) → CutsFit decls loop first → CutsFit decls loop other
      → CutsFit decls loop (branched condition own number stage first other)
  branched_fits loop condition own number stage first other c h g = (
    record { conds = tt; reads = c; assigns = tt },
    append_fits loop (with_lit (literal number own true) first) (with_lit (literal number own false) other) (lit_fits loop (literal number own true) first h) (lit_fits loop (literal number own false) other g),
  )

  single_fits : (loop : Option Name) (cuts : Cuts) (piece : Piece) → single cuts ≡ Some piece → CutsFit decls loop cuts → PieceFits decls loop piece
  single_fits loop Nil piece e h = cc
  single_fits loop (One first Nil) piece e h = let s : first ≡ piece = cc in subst (PieceFits decls loop) s h.0
  single_fits loop (One first (One other rest)) piece e h = cc
  single_fits loop (One first (Loop index size inner rest)) piece e h = cc
  single_fits loop (Loop index size inner rest) piece e h = cc

  guarded_fits : (loop : Option Name) (tried body : Cuts) (condition : PlainExpr) (own : Bool) (number : ℕ) (stage : Option ℕ) → AllBy (Fits decls loop) (expr_reads condition) → CutsFit decls loop tried → CutsFit decls loop body
      → CutsFit decls loop (guarded (single tried) condition own number stage body)
  guarded_fits loop tried body condition own number stage c t h = by (single tried) refl
    where
      by : (o : Option Piece) → single tried ≡ o → CutsFit decls loop (guarded o condition own number stage body)
      by None e = branched_fits loop condition own number stage body Nil c h tt
      by (Some piece) e =
          let p : PieceFits decls loop piece = single_fits loop tried piece e t in
          (record { conds = all_both (Fits decls loop) (expr_reads condition) (exprs_read piece.conds) c p.conds; reads = p.reads; assigns = p.assigns }, tt)

locals_drop : (k : ℕ) (xs : List PlainLocal) → take k xs ++ drop k xs ≡ xs
locals_drop zero xs = refl
locals_drop (suc k) [] = refl
locals_drop (suc k) (x ∷ xs) = ap (λ z. x ∷ z) (locals_drop k xs)

module _ (allow : Bool) (decls : List PlainDecl) (typed : Typed allow decls) (d : ℕ) (control : Name) (locals : List PlainLocal) (body : PlainStmts) (here : slice_get decls d ≡ Some (PlainDecl.Control control locals body)) where
  abbrev before : List PlainDecl
  before = take d decls

  -- the sizes of the loop around, where there is one, and the scope in it
  abbrev scope_in : Option (Name × Name) → Scope
  scope_in None = top before
  scope_in (Some around) = in_loop (top before) around.0 around.1

  abbrev loop_in : Option (Name × Name) → Option Name
  loop_in around = option_map (λ around. around.1) around

  abbrev sizes_in : Option (Name × Name) → List Name
  sizes_in None = []
  sizes_in (Some around) = around.1 ∷ []

  scope_before : (around : Option (Name × Name)) → (scope_in around).before ≡ before
  scope_before None = refl
  scope_before (Some around) = refl

  is_around : (around : Option (Name × Name)) → IsAround (scope_in around) (loop_in around)
  is_around None = inl refl
  is_around (Some around) = inr (around.1, refl, or_left (same around.1 around.1) false (same_self around.1))

  stands_in : (around : Option (Name × Name)) (locations : List Location) → AllStand (scope_in around) locations → AllBy (Fits decls (loop_in around)) locations
  stands_in around locations h = all_fit d decls (scope_in around) (loop_in around) (scope_before around) (is_around around) locations h

  outside : (loop : Option Name) (locations : List Location) → AllStand (top before) locations → AllBy (Fits decls loop) locations
  outside loop locations h = all_fit d decls (top before) loop refl (inl refl) locations h

  -- the loops around a call are among those that are listed for the action
  abbrev Lists : (Name → List Name) → Type 0
  Lists sizes = (name size : Name) → among (sizes name) size ≡ true → among (calling_sizes_in name [] body) size ≡ true

  lists_left : (one other : Name → List Name) → Lists (λ name. one name ++ other name) → Lists one
  lists_left one other h name size m =
      h name size (list_any-append (same size) (one name) (other name) ∙ or_left (among (one name) size) (among (other name) size) m)

  lists_right : (one other : Name → List Name) → Lists (λ name. one name ++ other name) → Lists other
  lists_right one other h name size m =
      h name size (list_any-append (same size) (one name) (other name) ∙ or_right (among (one name) size) (among (other name) size) m)

  -- what an action of the control asks
  action_fine : (name : Name) (action : PlainAction) → action_of decls name ≡ Some action → (first_broken allow (asks_action before body action) ≡ None) × (action.name ≡ name) × (found (action_in name) locals ≡ Some action)
  action_fine name action e =
      let here_found : found (action_in name) locals ≡ Some action = ap (found (action_in name)) (sym (locals_are allow decls typed d control locals body here)) ∙ e in
      let at : FoundAt (action_in name) locals action = found_at (action_in name) locals action here_found in
      let p = control_parts allow decls typed d control locals body here in (
        local_asks allow before body [] locals p.1 at.number (PlainLocal.OfAction action) (at.here ∙ ap Some (action_is name at.at action at.gives_it)),
        named at.at at.gives_it,
        here_found,
      )
    where
      named : (x : PlainLocal) → action_in name x ≡ Some action → action.name ≡ name
      named (PlainLocal.OfAction other) g = by (same name other.name) refl g
        where
          by : (b : Bool) → same name other.name ≡ b → (if b then Some other else None) ≡ Some action → action.name ≡ name
          by true k f = let s : other ≡ action = cc in ap (λ (a : PlainAction). a.name) (sym s) ∙ sym (same_told name other.name k)
          by false k f = cc
      named (PlainLocal.OfTable table) g = cc

  action_body : (action : PlainAction) → first_broken allow (asks_action before body action) ≡ None → AllStand (in_action before body action) (action_reads (Some action)) × AllStand (in_action before body action) (action_assigns (Some action))
  action_body action h =
      let names = asks_names [] (option_names action.index ++ map param_name action.params) in
      let params = flat_map asks_param action.params in
      let stmts = asks_stmts (in_action before body action) [] action.body in
      let p = parts allow names (params ++ stmts) h in
      body_stands allow (in_action before body action) [] action.body (parts allow params stmts p.1).1

  -- an action with an index is called in a loop that is listed for it
  action_around : (around : Option (Name × Name)) (action : PlainAction) (index : Option Name) → Lists (λ name. calling_sizes name (sizes_in around) (PlainStmt.Call action.name index [])) → is_called (scope_in around) action.index index ≡ true
      → IsAround (in_action before body action) (loop_in around)
  action_around around action index lists called = by around action.index refl lists called
    where
      by : (around : Option (Name × Name)) (own : Option Name) → action.index ≡ own → Lists (λ name. calling_sizes name (sizes_in around) (PlainStmt.Call action.name index [])) → is_called (scope_in around) own index ≡ true
          → IsAround (in_action before body action) (loop_in around)
      by around None e lists called = inl e
      by None (Some own) e lists called = absurd (true≢false (sym called ∙ outer index))
        where
          outer : (given : Option Name) → is_called (top before) (Some own) given ≡ false
          outer None = refl
          outer (Some given) = refl
      by (Some around) (Some own) e lists called =
          inr (around.1, refl, lists action.name around.1 (ap (λ b. among (if b then around.1 ∷ [] else []) around.1) (same_self action.name) ∙ or_left (same around.1 around.1) false (same_self around.1)))

  call_fits : (around : Option (Name × Name)) (name : Name) (index : Option Name) (args : List PlainExpr) → first_broken allow (asks_call (scope_in around) (action_among locals name) index args) ≡ None
      → Lists (λ other. calling_sizes other (sizes_in around) (PlainStmt.Call name index args))
      → AllBy (Fits decls (loop_in around)) (leaf_reads decls (PlainStmt.Call name index args)) × AllBy (Fits decls (loop_in around)) (leaf_assigns decls (PlainStmt.Call name index args))
  call_fits around name index args h lists = by (action_of decls name) refl
    where
      given : AllBy (Fits decls (loop_in around)) (exprs_read args)
      given = stands_in around (exprs_read args) (call_stands allow (scope_in around) (action_among locals name) index args h)

      by : (o : Option PlainAction) → action_of decls name ≡ o → AllBy (Fits decls (loop_in around)) (exprs_read args ++ action_reads o) × AllBy (Fits decls (loop_in around)) (action_assigns o)
      by None e = (all_both (Fits decls (loop_in around)) (exprs_read args) [] given tt, tt)
      by (Some action) e =
          let fine = action_fine name action e in
          let stands = action_body action fine.0 in
          let among_is : action_among locals name ≡ Some action = declared (same name no_action_name) refl fine.2 in
          let called = called_so allow (scope_in around) action index args (subst (λ o. first_broken allow (asks_call (scope_in around) o index args) ≡ None) among_is h) in
          let around_it = action_around around action index (λ other size m. lists other size (subst (λ n. among (calling_sizes other (sizes_in around) (PlainStmt.Call n index [])) size ≡ true) fine.1 m)) called in (
            all_both (Fits decls (loop_in around)) (exprs_read args) (action_reads (Some action)) given (all_fit d decls (in_action before body action) (loop_in around) refl around_it (action_reads (Some action)) stands.0),
            all_fit d decls (in_action before body action) (loop_in around) refl around_it (action_assigns (Some action)) stands.1,
          )
        where
          declared : (b : Bool) → same name no_action_name ≡ b → found (action_in name) locals ≡ Some action → action_among locals name ≡ Some action
          declared false k f = ap (λ b. if b then Some no_action else found (action_in name) locals) k ∙ f
          declared true k f =
              let undeclared : Some action ≡ None = sym e ∙ ap (action_of decls) (same_told name no_action_name k) ∙ no_action_is_undeclared allow decls typed in cc

  -- the actions of a table have no index
  listed_fits : (loop : Option Name) (k : ℕ) (name : Name) → first_broken allow (asks_listed (take k locals) name) ≡ None → AllBy (Fits decls loop) (action_reads (action_of decls name)) × AllBy (Fits decls loop) (action_assigns (action_of decls name))
  listed_fits loop k name h = by (action_of decls name) refl
    where
      by : (o : Option PlainAction) → action_of decls name ≡ o → AllBy (Fits decls loop) (action_reads o) × AllBy (Fits decls loop) (action_assigns o)
      by None e = (tt, tt)
      by (Some action) e =
          let fine = action_fine name action e in
          let stands = action_body action fine.0 in
          let bare : action.index ≡ None = index_none fine.2 in (
            all_fit d decls (in_action before body action) loop refl (inl bare) (action_reads (Some action)) stands.0,
            all_fit d decls (in_action before body action) loop refl (inl bare) (action_assigns (Some action)) stands.1,
          )
        where
          front : (o : Option PlainAction) → found (action_in name) (take k locals) ≡ o → is_some o ≡ true → found (action_in name) locals ≡ o
          front o f there = ap (found (action_in name)) (sym (locals_drop k locals)) ∙ found_stays (action_in name) (take k locals) (drop k locals) (ap is_some f ∙ there) ∙ f

          none_index : (o : Option Name) → is_none o ≡ true → o ≡ None
          none_index None g = refl
          none_index (Some i) g = absurd (true≢false (sym g))

          undeclared : same name no_action_name ≡ true → Some action ≡ None
          undeclared s = sym e ∙ ap (action_of decls) (same_told name no_action_name s) ∙ no_action_is_undeclared allow decls typed

          among_it : (b : Bool) (o : Option PlainAction) → same name no_action_name ≡ b → found (action_in name) (take k locals) ≡ o → found (action_in name) locals ≡ Some action → action.index ≡ None
          among_it true o s f g = let never = undeclared s in cc
          among_it false None s f g =
              let is : action_among (take k locals) name ≡ None = ap (λ b. if b then Some no_action else found (action_in name) (take k locals)) s ∙ f in
              let q : first_broken allow (Known false ∷ []) ≡ None = rw is at h in
              absurd (true≢false (sym (head_met allow (Known false) [] q).0))
          among_it false (Some other) s f g =
              let is : action_among (take k locals) name ≡ Some other = ap (λ b. if b then Some no_action else found (action_in name) (take k locals)) s ∙ f in
              let q = rw is at h in
              let one : Some other ≡ Some action = sym (front (Some other) f refl) ∙ g in
              let alike : other ≡ action = cc in
              ap (λ (a : PlainAction). a.index) (sym alike) ∙ none_index other.index (head_met allow (Called (is_none other.index)) (NoRegister (length (body_registers other.body) == 0) ∷ []) q).0

          index_none : found (action_in name) locals ≡ Some action → action.index ≡ None
          index_none g = among_it (same name no_action_name) (found (action_in name) (take k locals)) refl refl g

  actions_fit : (loop : Option Name) (k : ℕ) (names : List Name) → first_broken allow (flat_map (asks_listed (take k locals)) names) ≡ None → AllBy (Fits decls loop) (actions_read decls names) × AllBy (Fits decls loop) (actions_assign decls names)
  actions_fit loop k [] h = (tt, tt)
  actions_fit loop k (name ∷ names) h =
      let p = parts allow (asks_listed (take k locals) name) (flat_map (asks_listed (take k locals)) names) h in
      let one = listed_fits loop k name p.0 in
      let rest = actions_fit loop k names p.1 in (
        all_both (Fits decls loop) (action_reads (action_of decls name)) (actions_read decls names) one.0 rest.0,
        all_both (Fits decls loop) (action_assigns (action_of decls name)) (actions_assign decls names) one.1 rest.1,
      )

  table_is : (name : Name) (x : PlainLocal) (table : PlainTable) → table_in name x ≡ Some table → x ≡ PlainLocal.OfTable table
  table_is name (PlainLocal.OfTable other) table h = ap PlainLocal.OfTable (if_some (same name other.name) other table h)
  table_is name (PlainLocal.OfAction action) table h = cc

  apply_fits : (loop : Option Name) (name : Name) → AllBy (Fits decls loop) (leaf_reads decls (PlainStmt.Apply name)) × AllBy (Fits decls loop) (leaf_assigns decls (PlainStmt.Apply name))
  apply_fits loop name = by (table_of decls name) refl
    where
      by : (o : Option PlainTable) → table_of decls name ≡ o → AllBy (Fits decls loop) (table_reads decls o) × AllBy (Fits decls loop) (table_assigns decls o)
      by None e = (tt, tt)
      by (Some table) e =
          let there : found (table_in name) locals ≡ Some table = ap (found (table_in name)) (sym (locals_are allow decls typed d control locals body here)) ∙ e in
          let at : FoundAt (table_in name) locals table = found_at (table_in name) locals table there in
          let own = control_parts allow decls typed d control locals body here in
          let h : first_broken allow (asks_table before (take at.number locals) table) ≡ None = local_asks allow before body [] locals own.1 at.number (PlainLocal.OfTable table) (at.here ∙ ap Some (table_is name at.at table at.gives_it)) in
          let seen = take at.number locals in
          let keys = flat_map (asks_key before) table.keys in
          let listed = flat_map (asks_listed seen) table.actions in
          let size = asks_size (length table.entries) table.size in
          let entries = flat_map (asks_entry before seen table) table.entries in
          let fallback = asks_fallback before seen table table.fallback in
          let p = parts allow keys (listed ++ (size ++ (entries ++ fallback))) h in
          let q = parts allow listed (size ++ (entries ++ fallback)) p.1 in
          let r = parts allow size (entries ++ fallback) q.1 in
          let s = parts allow entries fallback r.1 in
          let a = actions_fit loop at.number table.actions q.0 in (
            all_both (Fits decls loop) (keys_read table.keys) ((entries_read table.entries ++ fallback_reads table.fallback) ++ actions_read decls table.actions)
                (outside loop (keys_read table.keys) (keys_stand allow before table.keys p.0))
                (all_both (Fits decls loop) (entries_read table.entries ++ fallback_reads table.fallback) (actions_read decls table.actions)
                (all_both (Fits decls loop) (entries_read table.entries) (fallback_reads table.fallback)
                (outside loop (entries_read table.entries) (entries_stand allow before seen table table.entries s.0))
                (outside loop (fallback_reads table.fallback) (fallback_stands allow before seen table table.fallback s.1)))
                a.0),
            a.1,
          )

  -- a piece of a plain statement
  plain_fits : (around : Option (Name × Name)) (x : PlainStmt) → first_broken allow (asks_stmt (scope_in around) locals x) ≡ None → AllBy (Fits decls (loop_in around)) (plain_reads x) × AllBy (Fits decls (loop_in around)) (plain_assigns x)
  plain_fits around x h =
      let p = own_stands allow (scope_in around) locals x h in (stands_in around (plain_reads x) p.0, stands_in around (plain_assigns x) p.1)

  loop_alone : (around : Name × Name) (index size : Name) (inner : PlainStmts) → first_broken allow (asks_loop (scope_in (Some around)) index size ++ asks_stmts (in_loop (scope_in (Some around)) index size) locals inner) ≡ None → ⊥
  loop_alone around index size inner h =
      true≢false (sym (head_met allow (Alone false) (Known (is_symbol before size) ∷ asks_names [] (index ∷ [])) (parts allow (asks_loop (scope_in (Some around)) index size) (asks_stmts (in_loop (scope_in (Some around)) index size) locals inner) h).0).0)

  mutual
    cut_fits : (around : Option (Name × Name)) (x : PlainStmt) (own : Bool) (number : ℕ) (stage : Option ℕ) → first_broken allow (asks_stmt (scope_in around) locals x) ≡ None → Lists (λ name. calling_sizes name (sizes_in around) x)
        → CutsFit decls (loop_in around) (cut x own number stage)
    cut_fits around (PlainStmt.Block own_stage xs) own number stage h lists = cut_all_fits around xs own number (or_else own_stage stage) h lists
    cut_fits around (PlainStmt.If condition xs) own number stage h lists =
        let p = parts allow (asks_truth (scope_in around) condition) (asks_stmts (scope_in around) locals xs) h in
        let c = stands_in around (expr_reads condition) (truth_stands allow (scope_in around) condition p.0) in
        guarded_fits decls (loop_in around) (cut_all xs own number stage) (cut_all xs own (suc number) stage) condition own number stage c
        (cut_all_fits around xs own number stage p.1 lists) (cut_all_fits around xs own (suc number) stage p.1 lists)
    cut_fits around (PlainStmt.IfElse condition xs ys) own number stage h lists =
        let p = parts allow (asks_truth (scope_in around) condition) (asks_stmts (scope_in around) locals xs ++ asks_stmts (scope_in around) locals ys) h in
        let q = parts allow (asks_stmts (scope_in around) locals xs) (asks_stmts (scope_in around) locals ys) p.1 in
        let c = stands_in around (expr_reads condition) (truth_stands allow (scope_in around) condition p.0) in
        let one : Name → List Name = λ name. calling_sizes_in name (sizes_in around) xs in
        let two : Name → List Name = λ name. calling_sizes_in name (sizes_in around) ys in
        branched_fits decls (loop_in around) condition own number stage (cut_all xs own (suc number) stage) (cut_all ys own (suc number + tests (cut_all xs own (suc number) stage)) stage) c
        (cut_all_fits around xs own (suc number) stage q.0 (lists_left one two lists)) (cut_all_fits around ys own (suc number + tests (cut_all xs own (suc number) stage)) stage q.1 (lists_right one two lists))
    cut_fits None (PlainStmt.For index size xs) own number stage h lists = (
      symbol_of_all d decls size (loop_is_over_symbol allow (top before) locals index size xs h),
      cut_all_fits (Some (index, size)) xs true number stage (parts allow (asks_loop (top before) index size) (asks_stmts (in_loop (top before) index size) locals xs) h).1 lists,
      tt,
    )
    cut_fits (Some around) (PlainStmt.For index size xs) own number stage h lists = absurd (loop_alone around index size xs h)
    cut_fits around (PlainStmt.Call action index args) own number stage h lists = let p = call_fits around action index args h lists in (record { conds = tt; reads = p.0; assigns = p.1 }, tt)
    cut_fits around (PlainStmt.Apply table) own number stage h lists = let p = apply_fits (loop_in around) table in (record { conds = tt; reads = p.0; assigns = p.1 }, tt)
    cut_fits around (PlainStmt.Assign to value) own number stage h lists = let p = plain_fits around (PlainStmt.Assign to value) h in (record { conds = tt; reads = p.0; assigns = p.1 }, tt)
    cut_fits around (PlainStmt.Read to register cell) own number stage h lists = let p = plain_fits around (PlainStmt.Read to register cell) h in (record { conds = tt; reads = p.0; assigns = p.1 }, tt)
    cut_fits around (PlainStmt.Write register cell value) own number stage h lists = let p = plain_fits around (PlainStmt.Write register cell value) h in (record { conds = tt; reads = p.0; assigns = p.1 }, tt)
    cut_fits around (PlainStmt.Valid header on) own number stage h lists = let p = plain_fits around (PlainStmt.Valid header on) h in (record { conds = tt; reads = p.0; assigns = p.1 }, tt)

    cut_all_fits : (around : Option (Name × Name)) (xs : PlainStmts) (own : Bool) (number : ℕ) (stage : Option ℕ) → first_broken allow (asks_stmts (scope_in around) locals xs) ≡ None → Lists (λ name. calling_sizes_in name (sizes_in around) xs)
        → CutsFit decls (loop_in around) (cut_all xs own number stage)
    cut_all_fits around PlainStmts.nil own number stage h lists = tt
    cut_all_fits around (PlainStmts.cons x xs) own number stage h lists =
        let p = parts allow (asks_stmt (scope_in around) locals x) (asks_stmts (scope_in around) locals xs) h in
        let one : Name → List Name = λ name. calling_sizes name (sizes_in around) x in
        let two : Name → List Name = λ name. calling_sizes_in name (sizes_in around) xs in
        append_fits decls (loop_in around) (cut x own number stage) (cut_all xs own (number + tests (cut x own number stage)) stage) (cut_fits around x own number stage p.0 (lists_left one two lists))
        (cut_all_fits around xs own (number + tests (cut x own number stage)) stage p.1 (lists_right one two lists))

  pub control_fits : CutsFit decls None (cut_all body false 0 None)
  control_fits = cut_all_fits None body false 0 None (control_parts allow decls typed d control locals body here).2 (λ name size m. m)

control_given : (name : Name) (x : PlainDecl) (body : PlainStmts) → control_in name x ≡ Some body → (control : Name) × (locals : List PlainLocal) × (x ≡ PlainDecl.Control control locals body)
control_given name (PlainDecl.Control control locals other) body h = (control, locals, ap (PlainDecl.Control control locals) (if_some (same name control) other body h))
control_given name other body h = cc

-- the pieces of the body that `main` names
pub pieces_fit : (allow : Bool) (decls : List PlainDecl) → Typed allow decls → CutsFit decls None (cuts_of decls)
pieces_fit allow decls typed = by (found main_in decls)
  where
    named : (name : Name) (o : Option PlainStmts) → found (control_in name) decls ≡ o → CutsFit decls None (cut_all (unwrap_or o PlainStmts.nil) false 0 None)
    named name None e = tt
    named name (Some body) e =
        let f : FoundAt (control_in name) decls body = found_at (control_in name) decls body e in
        let g = control_given name f.at body f.gives_it in
        control_fits allow decls typed f.number g.0 g.1 body (f.here ∙ ap Some g.2)

    by : (o : Option Main) → CutsFit decls None (cut_all (unwrap_or (option_and_then (λ (main : Main). found (control_in main.1) decls) o) PlainStmts.nil) false 0 None)
    by None = tt
    by (Some main) = named main.1 (found (control_in main.1) decls) refl
