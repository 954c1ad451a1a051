-- What a typed expression, statement, action or table names stands as it is declared: with the index around exactly where it is an
-- array, and then each loop around is over its size.
use Rattle.std.proofs.Common.{◌≡◌, ℕ, ◌⊎◌, inl, inr, Bool, true, false, List, [], ◌∷◌, ◌++◌, take, drop, Option, Some, None, is_some, refl, sym, ap, subst, ◌∙◌, true≢false}
use Rattle.std.specs.Prelude.{flat_map, option_and_then, find}
use Rattle.std.specs.List.{list_all}
use Rattle.std.proofs.lemmas.Bool.{and_parts, or_cases}
use Rattle.elastic_ast.specs.declared.statements.Lval.{Lval}
use Rattle.elastic_ast.specs.declared.statements.Lval.TheVariants as lval
use Rattle.elastic_ast.specs.declared.statements.RegRef.{RegRef}
use Rattle.elastic_ast.specs.declared.declarations.Field.{Field}
use Rattle.elastic_ast.specs.declared.declarations.Param.{Param}
use Rattle.elastic_ast.specs.declared.declarations.Key.{Key}
use Rattle.elastic_ast.specs.declared.flat.Location.{Location}
use Rattle.elastic_ast.specs.declared.flat.Location.TheVariants as location
use Rattle.elastic_ast.specs.Tree.{Name, PlainDecl, PlainExpr, PlainStmt, PlainStmts, PlainKeyset, PlainEntry, PlainAction, PlainTable, PlainLocal}
use Rattle.elastic_ast.specs.Typing.Scope.{same, among, found, Scope, top, is_name_of, is_index}
use Rattle.elastic_ast.specs.Typing.LookUps.{meta_fields, meta_field, register_size_in, register_size}
use Rattle.elastic_ast.specs.OperatorSorts.{operator_of, sort_of}
use Rattle.elastic_ast.specs.Typing.Types.{Ty, Bare, bits_of, left_giver, right_giver, lval_type, type_of}
use Rattle.elastic_ast.specs.Typing.Demand.{Demand, Known, Wide, Alike, HasWidth, Boolean, Number, Indexed, Cut, Keyed, Listed, Called, first_broken}
use Rattle.elastic_ast.specs.Typing.AskedOfNames.{asks_amount}
use Rattle.elastic_ast.specs.Typing.AskedInExpressions.{names_at, asks_index, index_fits, asks_element, asks_lval, asks_count, turned_giver, asks_turned, asks_cast, asks_expr, asks_bits, asks_truth}
use Rattle.elastic_ast.specs.Typing.AskedInStatements.{asks_register, asks_register_of, register_type, action_among, asks_args, is_called, asks_call, asks_cell, asks_stmt, asks_stmts}
use Rattle.elastic_ast.specs.Typing.AskedInLocals.{asks_value, asks_set, asks_sets, asks_values, asks_run, asks_key, asks_entry, asks_fallback}
use Rattle.elastic_ast.specs.Units.Reach.{location_of, register_location, expr_reads, exprs_read, plain_reads, plain_assigns, body_reads, body_assigns, set_reads, sets_read, entries_read, fallback_reads, keys_read}
use Rattle.elastic_ast.proofs.Typing.SameNames.{same_told}
use Rattle.elastic_laws.proofs.Typing.TypedFacts.{parts, head_met}
use Rattle.elastic_laws.proofs.Typing.TypedStays.{found_stays, meta_fields_stay, operands}
use Rattle.elastic_laws.proofs.Typing.TypedHeaders.{take_drop}
use Rattle.elastic_laws.proofs.Units.EachUnit.{AllBy, all_both}
use Rattle.unit_flow.specs.OwnLocations.{array_size, register_array_size}

-- something with a size stands with the index around, and each loop that this may be of is over the size; what has no size stands
-- without an index
abbrev pub StandsBy : Bool → Option Name → List Name → Option Name → Type 0
StandsBy true index sizes (Some size) = (is_some index ≡ true) × (list_all (same size) sizes ≡ true)
StandsBy true index sizes None = ⊥
StandsBy false index sizes (Some size) = ⊥
StandsBy false index sizes None = Unit {0}

-- the same of a location, of something that is declared before
abbrev pub Stands : Scope → Location → Type 0
Stands s (location.Meta name own) = (is_some (meta_field s.before name) ≡ true) × StandsBy own s.index s.sizes (array_size s.before name)
Stands s (location.Reg name own) = (is_some (register_size s.before name) ≡ true) × StandsBy own s.index s.sizes (register_array_size s.before name)
Stands s (location.Pred number own) = ⊥
Stands s _ = Unit {0}

abbrev pub AllStand : Scope → List Location → Type 0
AllStand s locations = AllBy (Stands s) locations

named_around : (index : Option Name) (name : Name) → is_name_of index name ≡ true → is_some index ≡ true
named_around None name h = absurd (true≢false (sym h))
named_around (Some index) name h = refl

fits : (s : Scope) (size index : Option Name) → index_fits s size index ≡ true → StandsBy (is_some index) s.index s.sizes size
fits s None None h = tt
fits s None (Some index) h = absurd (true≢false (sym h))
fits s (Some size) None h = absurd (true≢false (sym h))
fits s (Some size) (Some index) h =
    let p = and_parts (is_index s index) (list_all (same size) s.sizes) h in (named_around s.index index p.0, p.1)

module _ (allow : Bool) where
  element_stands : (s : Scope) (field : Option Field) (index : Option Name) → first_broken allow (asks_element s field index) ≡ None
      → (is_some field ≡ true) × StandsBy (is_some index) s.index s.sizes (option_and_then (λ (field : Field). field.size) field)
  element_stands s None index h = absurd (true≢false (sym (head_met allow (Known false) (asks_index s index) h).0))
  element_stands s (Some field) index h = (refl, fits s field.size index (head_met allow (Indexed (index_fits s field.size index)) (asks_index s index) h).0)

  pub lval_stands : (s : Scope) (place : Lval) → first_broken allow (asks_lval s place) ≡ None → Stands s (location_of place)
  lval_stands s (lval.Header header field) h = tt
  lval_stands s (lval.Meta name index) h = element_stands s (meta_field s.before name) index h
  lval_stands s (lval.Std name) h = tt

  size_stands : (s : Scope) (size : Option (Option Name)) (index : Option Name) → first_broken allow (asks_register s size index) ≡ None
      → (is_some size ≡ true) × StandsBy (is_some index) s.index s.sizes (option_and_then (λ (size : Option Name). size) size)
  size_stands s None index h = absurd (true≢false (sym (head_met allow (Known false) (asks_index s index) h).0))
  size_stands s (Some size) index h = (refl, fits s size index (head_met allow (Indexed (index_fits s size index)) (asks_index s index) h).0)

  register_stands : (s : Scope) (register : RegRef) → first_broken allow (asks_register_of s register) ≡ None → Stands s (register_location register)
  register_stands s register h = size_stands s (register_size s.before register.name) register.index h

  pub expr_stands : (s : Scope) (e : PlainExpr) (giver : Ty) → first_broken allow (asks_expr s e giver) ≡ None → AllStand s (expr_reads e)
  expr_stands s (PlainExpr.Num width number) giver h = tt
  expr_stands s (PlainExpr.Truth truth) giver h = tt
  expr_stands s (PlainExpr.Named name) giver h = tt
  expr_stands s (PlainExpr.At place) giver h = (lval_stands s place h, tt)
  expr_stands s (PlainExpr.IsValid header) giver h = (tt, tt)
  expr_stands s (PlainExpr.Unary op of) giver h =
      let sort = sort_of (operator_of op) in
      expr_stands s of (turned_giver sort giver) (parts allow (asks_expr s of (turned_giver sort giver)) (asks_turned sort (type_of (names_at s) of)) h).0
  expr_stands s (PlainExpr.Binary op left right) giver h =
      let sort = sort_of (operator_of op) in
      let a = type_of (names_at s) left in
      let b = type_of (names_at s) right in
      let p = operands allow s op left right giver h in
      all_both (Stands s) (expr_reads left) (expr_reads right) (expr_stands s left (left_giver sort a b) p.0) (expr_stands s right (right_giver sort a b) p.1)
  expr_stands s (PlainExpr.Cast width of) giver h =
      let operand = asks_expr s of (bits_of width) in
      let own = asks_cast width (type_of (names_at s) of) in
      expr_stands s of (bits_of width) (parts allow operand own (head_met allow (Wide width) (operand ++ own) h).1).0
  expr_stands s (PlainExpr.Slice of high low) giver h =
      let t = type_of (names_at s) of in
      expr_stands s of Bare (parts allow (asks_expr s of Bare) (Number t ∷ HasWidth t ∷ Cut high low t ∷ []) h).0
  expr_stands s (PlainExpr.Hash k of modulus) giver h =
      let t = type_of (names_at s) of in
      expr_stands s of Bare (parts allow (asks_expr s of Bare) (asks_count s k ++ (asks_amount s.before modulus ++ (Number t ∷ HasWidth t ∷ []))) h).0

  pub bits_stand : (s : Scope) (e : PlainExpr) (width : Ty) → first_broken allow (asks_bits s e width) ≡ None → AllStand s (expr_reads e)
  bits_stand s e width h =
      let t = type_of (names_at s) e in expr_stands s e width (parts allow (asks_expr s e width) (Number t ∷ Alike t width ∷ []) h).0

  pub truth_stands : (s : Scope) (e : PlainExpr) → first_broken allow (asks_truth s e) ≡ None → AllStand s (expr_reads e)
  truth_stands s e h = expr_stands s e Bare (parts allow (asks_expr s e Bare) (Boolean (type_of (names_at s) e) ∷ []) h).0

  -- what a plain statement reads and assigns
  plain_stands : (s : Scope) (locals : List PlainLocal) (x : PlainStmt) → first_broken allow (asks_stmt s locals x) ≡ None → AllStand s (plain_reads x) × AllStand s (plain_assigns x)
  plain_stands s locals (PlainStmt.Assign to value) h =
      let p = parts allow (asks_lval s to) (asks_bits s value (lval_type s.before to)) h in
      (bits_stand s value (lval_type s.before to) p.1, (lval_stands s to p.0, tt))
  plain_stands s locals (PlainStmt.Read to register cell) h =
      let last : List Demand = Alike (lval_type s.before to) (register_type s register) ∷ [] in
      let p = parts allow (asks_lval s to) (asks_register_of s register ++ (asks_cell s cell ++ last)) h in
      let q = parts allow (asks_register_of s register) (asks_cell s cell ++ last) p.1 in
      let r = parts allow (asks_cell s cell) last q.1 in
      let at : Stands s (register_location register) = register_stands s register q.0 in (
        all_both (Stands s) (expr_reads cell) (register_location register ∷ []) (bits_stand s cell _ r.0) (at, tt),
        (lval_stands s to p.0, (at, tt)),
      )
  plain_stands s locals (PlainStmt.Write register cell value) h =
      let p = parts allow (asks_register_of s register) (asks_cell s cell ++ asks_bits s value (register_type s register)) h in
      let q = parts allow (asks_cell s cell) (asks_bits s value (register_type s register)) p.1 in
      let at : Stands s (register_location register) = register_stands s register p.0 in (
        all_both (Stands s) (expr_reads cell) (expr_reads value ++ register_location register ∷ []) (bits_stand s cell _ q.0)
            (all_both (Stands s) (expr_reads value) (register_location register ∷ []) (bits_stand s value (register_type s register) q.1) (at, tt)),
        (at, tt),
      )
  plain_stands s locals (PlainStmt.Valid header on) h = (tt, (tt, tt))
  plain_stands s locals other h = (tt, tt)

  pub body_stands : (s : Scope) (locals : List PlainLocal) (xs : PlainStmts) → first_broken allow (asks_stmts s locals xs) ≡ None → AllStand s (body_reads xs) × AllStand s (body_assigns xs)
  body_stands s locals PlainStmts.nil h = (tt, tt)
  body_stands s locals (PlainStmts.cons x xs) h =
      let p = parts allow (asks_stmt s locals x) (asks_stmts s locals xs) h in
      let here = plain_stands s locals x p.0 in
      let rest = body_stands s locals xs p.1 in
      (all_both (Stands s) (plain_reads x) (body_reads xs) here.0 rest.0, all_both (Stands s) (plain_assigns x) (body_assigns xs) here.1 rest.1)

  pub own_stands : (s : Scope) (locals : List PlainLocal) (x : PlainStmt) → first_broken allow (asks_stmt s locals x) ≡ None → AllStand s (plain_reads x) × AllStand s (plain_assigns x)
  own_stands s locals x h = plain_stands s locals x h

  args_stand : (s : Scope) (args : List PlainExpr) (params : List Param) → first_broken allow (asks_args s args params) ≡ None → AllStand s (exprs_read args)
  args_stand s [] params h = tt
  args_stand s (arg ∷ args) [] h = absurd (true≢false (sym (head_met allow (Called false) [] h).0))
  args_stand s (arg ∷ args) (param ∷ params) h =
      let p = parts allow (asks_bits s arg (bits_of param.width)) (asks_args s args params) h in
      all_both (Stands s) (expr_reads arg) (exprs_read args) (bits_stand s arg (bits_of param.width) p.0) (args_stand s args params p.1)

  -- the arguments of a call, and the index with which an action is called
  pub call_stands : (s : Scope) (o : Option PlainAction) (index : Option Name) (args : List PlainExpr) → first_broken allow (asks_call s o index args) ≡ None → AllStand s (exprs_read args)
  call_stands s None index args h = absurd (true≢false (sym (head_met allow (Known false) [] h).0))
  call_stands s (Some action) index args h =
      let p = (head_met allow (Indexed (is_called s action.index index)) (asks_index s index ++ asks_args s args action.params) h).1 in
      args_stand s args action.params (parts allow (asks_index s index) (asks_args s args action.params) p).1

  pub called_so : (s : Scope) (action : PlainAction) (index : Option Name) (args : List PlainExpr) → first_broken allow (asks_call s (Some action) index args) ≡ None → is_called s action.index index ≡ true
  called_so s action index args h = (head_met allow (Indexed (is_called s action.index index)) (asks_index s index ++ asks_args s args action.params) h).0

  -- what a table reads itself stands outside of loops
  module _ (before : List PlainDecl) where
    value_stands : (e : PlainExpr) (width : Ty) → first_broken allow (asks_value before e width) ≡ None → AllStand (top before) (expr_reads e)
    value_stands (PlainExpr.Named name) width h = tt
    value_stands other width h = bits_stand (top before) other width h

    set_stands : (width : Ty) (set : PlainKeyset) → first_broken allow (asks_set before width set) ≡ None → AllStand (top before) (set_reads set)
    set_stands width (PlainKeyset.One value) h = value_stands value width h
    set_stands width (PlainKeyset.Masked value mask) h =
        let p = parts allow (asks_value before value width) (asks_value before mask width) h in
        all_both (Stands (top before)) (expr_reads value) (expr_reads mask) (value_stands value width p.0) (value_stands mask width p.1)
    set_stands width PlainKeyset.Any h = tt

    sets_stand : (sets : List PlainKeyset) (keys : List Key) → first_broken allow (asks_sets before sets keys) ≡ None → AllStand (top before) (sets_read sets)
    sets_stand [] keys h = tt
    sets_stand (set ∷ sets) [] h = absurd (true≢false (sym (head_met allow (Keyed false) [] h).0))
    sets_stand (set ∷ sets) (key ∷ keys) h =
        let width = lval_type before key.field in
        let p = (head_met allow (Keyed _) (asks_set before width set ++ asks_sets before sets keys) h).1 in
        let q = parts allow (asks_set before width set) (asks_sets before sets keys) p in
        all_both (Stands (top before)) (set_reads set) (sets_read sets) (set_stands width set q.0) (sets_stand sets keys q.1)

    values_stand : (values : List PlainExpr) (params : List Param) → first_broken allow (asks_values before values params) ≡ None → AllStand (top before) (exprs_read values)
    values_stand [] params h = tt
    values_stand (value ∷ values) [] h = absurd (true≢false (sym (head_met allow (Called false) [] h).0))
    values_stand (value ∷ values) (param ∷ params) h =
        let p = parts allow (asks_value before value (bits_of param.width)) (asks_values before values params) h in
        all_both (Stands (top before)) (expr_reads value) (exprs_read values) (value_stands value (bits_of param.width) p.0) (values_stand values params p.1)

    run_stands : (locals : List PlainLocal) (name : Name) (values : List PlainExpr) → first_broken allow (asks_run before locals name values) ≡ None → AllStand (top before) (exprs_read values)
    run_stands locals name values h = by (action_among locals name) refl
      where
        by : (o : Option PlainAction) → action_among locals name ≡ o → AllStand (top before) (exprs_read values)
        by None e = let k : first_broken allow (Known false ∷ []) ≡ None = rw e at h in absurd (true≢false (sym (head_met allow (Known false) [] k).0))
        by (Some action) e = let k : first_broken allow (asks_values before values action.params) ≡ None = rw e at h in values_stand values action.params k

    pub entries_stand : (locals : List PlainLocal) (table : PlainTable) (entries : List PlainEntry) → first_broken allow (flat_map (asks_entry before locals table) entries) ≡ None → AllStand (top before) (entries_read entries)
    entries_stand locals table [] h = tt
    entries_stand locals table (entry ∷ entries) h =
        let p = parts allow (asks_entry before locals table entry) (flat_map (asks_entry before locals table) entries) h in
        let run = Listed (among table.actions entry.action) ∷ asks_run before locals entry.action entry.args in
        let q = parts allow (asks_sets before entry.keys table.keys) run p.0 in
        let r = (head_met allow (Listed (among table.actions entry.action)) (asks_run before locals entry.action entry.args) q.1).1 in
        all_both (Stands (top before)) (sets_read entry.keys ++ exprs_read entry.args) (entries_read entries)
        (all_both (Stands (top before)) (sets_read entry.keys) (exprs_read entry.args) (sets_stand entry.keys table.keys q.0) (run_stands locals entry.action entry.args r))
        (entries_stand locals table entries p.1)

    pub fallback_stands : (locals : List PlainLocal) (table : PlainTable) (fallback : Option (Name × List PlainExpr)) → first_broken allow (asks_fallback before locals table fallback) ≡ None → AllStand (top before) (fallback_reads fallback)
    fallback_stands locals table None h = tt
    fallback_stands locals table (Some run) h = run_stands locals run.0 run.1 (head_met allow (Listed _) (asks_run before locals run.0 run.1) h).1

    pub keys_stand : (keys : List Key) → first_broken allow (flat_map (asks_key before) keys) ≡ None → AllStand (top before) (keys_read keys)
    keys_stand [] h = tt
    keys_stand (key ∷ keys) h =
        let p = parts allow (asks_key before key) (flat_map (asks_key before) keys) h in (lval_stands (top before) key.field p.0, keys_stand keys p.1)

-- what is named so in the whole program, in a loop over the size, or in none
abbrev pub FitsBy : Bool → Option Name → Option Name → Type 0
FitsBy true loop (Some size) = loop ≡ Some size
FitsBy true loop None = ⊥
FitsBy false loop (Some size) = ⊥
FitsBy false loop None = Unit {0}

abbrev pub Fits : List PlainDecl → Option Name → Location → Type 0
Fits decls loop (location.Meta name own) = FitsBy own loop (array_size decls name)
Fits decls loop (location.Reg name own) = FitsBy own loop (register_array_size decls name)
Fits decls loop (location.Pred number own) = ⊥
Fits decls loop _ = Unit {0}

-- no index is around, or the loop around is one of those that the index may be of
abbrev pub IsAround : Scope → Option Name → Type 0
IsAround s loop = (s.index ≡ None) ⊎ ((size : Name) × (loop ≡ Some size) × (among s.sizes size ≡ true))

each_same : (size other : Name) (sizes : List Name) → list_all (same size) sizes ≡ true → among sizes other ≡ true → other ≡ size
each_same size other [] h m = absurd (true≢false (sym m))
each_same size other (first ∷ sizes) h m =
    let p = and_parts (same size first) (list_all (same size) sizes) h in
    by p.0 (λ e. each_same size other sizes p.1 e) (or_cases (same other first) (among sizes other) m)
  where
    by : same size first ≡ true → (among sizes other ≡ true → other ≡ size) → (same other first ≡ true) ⊎ (among sizes other ≡ true) → other ≡ size
    by is later (inl e) = same_told other first e ∙ sym (same_told size first is)
    by is later (inr e) = later e

module _ (n : ℕ) (decls : List PlainDecl) where
  size_kept : (own : Bool) (s : Scope) (loop size : Option Name) → IsAround s loop → StandsBy own s.index s.sizes size → FitsBy own loop size
  size_kept true s loop None around h = h
  size_kept true s loop (Some size) (inl none) h = absurd (true≢false (sym h.0 ∙ ap is_some none))
  size_kept true s loop (Some size) (inr (other, over, there)) h = over ∙ ap Some (each_same size other s.sizes h.1 there)
  size_kept false s loop None around h = tt
  size_kept false s loop (Some size) around h = h

  arrays_stay : (name : Name) → is_some (meta_field (take n decls) name) ≡ true → array_size (take n decls) name ≡ array_size decls name
  arrays_stay name h =
      ap (λ fields. option_and_then (λ (field : Field). field.size) (find (λ (field : Field). same name field.name) fields))
      (sym (meta_fields_stay (take n decls) (drop n decls) name h) ∙ ap meta_fields (take_drop n decls))

  registers_stay : (name : Name) → is_some (register_size (take n decls) name) ≡ true → register_array_size (take n decls) name ≡ register_array_size decls name
  registers_stay name h =
      ap (option_and_then (λ (size : Option Name). size))
      (sym (found_stays (register_size_in name) (take n decls) (drop n decls) h) ∙ ap (found (register_size_in name)) (take_drop n decls))

  pub one_fits : (s : Scope) (loop : Option Name) → s.before ≡ take n decls → IsAround s loop → (at : Location) → Stands s at → Fits decls loop at
  one_fits s loop e around (location.Meta name own) h =
      let known : is_some (meta_field (take n decls) name) ≡ true = ap (λ ds. is_some (meta_field ds name)) (sym e) ∙ h.0 in
      subst (FitsBy own loop) (ap (λ ds. array_size ds name) e ∙ arrays_stay name known) (size_kept own s loop (array_size s.before name) around h.1)
  one_fits s loop e around (location.Reg name own) h =
      let known : is_some (register_size (take n decls) name) ≡ true = ap (λ ds. is_some (register_size ds name)) (sym e) ∙ h.0 in
      subst (FitsBy own loop) (ap (λ ds. register_array_size ds name) e ∙ registers_stay name known) (size_kept own s loop (register_array_size s.before name) around h.1)
  one_fits s loop e around (location.Pred number own) h = h
  one_fits s loop e around other h = tt

  pub all_fit : (s : Scope) (loop : Option Name) → s.before ≡ take n decls → IsAround s loop → (locations : List Location) → AllStand s locations → AllBy (Fits decls loop) locations
  all_fit s loop e around [] h = tt
  all_fit s loop e around (at ∷ locations) h = (one_fits s loop e around at h.0, all_fit s loop e around locations h.1)
