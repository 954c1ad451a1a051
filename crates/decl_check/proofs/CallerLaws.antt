-- Sizes that are added to those of actions.
use Rattle.std.proofs.lemmas.List.{append-nil, length-append, length-map, get_or-set_same, get_or-set_other, length-set}
use Rattle.std.proofs.Common.{◌≡◌, ℕ, zero, suc, ◌+◌, ◌<◌, Bool, true, false, List, [], ◌∷◌, ◌++◌, map, take, length, get_or, slice_get, Some, None, refl, sym, ap, subst, ◌∙◌, append_assoc, true≢false, arith}
use Rattle.std.proofs.lemmas.Option.{slice_get-get_or}
use Rattle.elastic_ast.specs.declared.declarations.Local.{Local}
use Rattle.program_names.specs.LocalParts.{name_of_local}
use Rattle.std.specs.Prelude.{Result, Ok, Err, is_ok, is_err, OnOk, if◌then◌else◌}
use denote.Bor.{Bor}
use Rattle.elastic_ast.specs.declared.statements.Stmt.{Stmt}
use Rattle.elastic_ast.specs.Tree.{Name, PlainStmt}
use Rattle.elastic_ast.specs.Seen.{seen_stmt, seen_stmts, joined}
use Rattle.elastic_ast.specs.Typing.Scope.{same}
use Rattle.elastic_ast.specs.Typing.AskedInStatements.{calling_sizes, calling_sizes_in}
use Rattle.program_names.specs.Distinct.{are_distinct}
use Rattle.program_names.specs.Named.{place_of}
use Rattle.program_names.proofs.NewNames.{place_only, place_holds, place_none, place_within}
use Rattle.expr_types.specs.Agreeing.{name_now}
use Rattle.decl_check.specs.CallerSizes.{with_size, sizes_at, AddsSizes, sizes_of_call, sizes_of, sizes_in, AreEmpty, AreCallers, AreAllCallers}
use Rattle.expr_types.proofs.ScopeLaws.{take_seen}

pub on_map : {T E P Q : Type 0} (r : Result T E) → OnOk r P → (P → Q) → OnOk r Q
on_map (Ok x) p f = f p
on_map (Err e) p f = p

module _ {names : List Name} {old new : List (List (Bor Name))} where
  -- the same sizes in other words
  pub along : {more other : Name → List Name} → AddsSizes names more old new → ((name : Name) → more name ≡ other name) → AddsSizes names other old new
  along h e = record { as_many = h.as_many; each = λ place name at. h.each place name at ∙ ap (λ z. sizes_at old place ++ z) (e name) }

  -- sizes that are added in two steps
  pub in_two : {between : List (List (Bor Name))} {more rest whole : Name → List Name} → AddsSizes names more old between → AddsSizes names rest between new → ((name : Name) → more name ++ rest name ≡ whole name) → AddsSizes names whole old new
  in_two {between} {more} {rest} {whole} a b e = record {
    as_many = b.as_many ∙ a.as_many;
    each = λ place name at. b.each place name at ∙ ap (λ z. z ++ rest name) (a.each place name at) ∙ append_assoc (sizes_at old place) (more name) (rest name) ∙ ap (λ z. sizes_at old place ++ z) (e name);
  }

-- nothing is added
pub nothing : {names : List Name} {more : Name → List Name} (sizes : List (List (Bor Name))) → ((place : ℕ) (name : Name) → slice_get names place ≡ Some name → more name ≡ []) → AddsSizes names more sizes sizes
nothing sizes e = record { as_many = refl; each = λ place name at. sym (append-nil (sizes_at sizes place)) ∙ ap (λ z. sizes_at sizes place ++ z) (sym (e place name at)) }

module _ (names : List Name) (called : Name) (distinct : are_distinct names ≡ true) where
  pub no_such : (around : List Name) (place : ℕ) (name : Name) → None ≡ place_of names called → slice_get names place ≡ Some name → sizes_of_call around called name ≡ []
  no_such around place name none at = ap (λ b. if b then around else []) (place_none names called place name distinct none at)

  -- one size is put to those of the action that is called
  pub called_at : (old new : List (List (Bor Name))) (place : ℕ) (size : Bor Name) → Some place ≡ place_of names called → length old ≡ length names → new ≡ with_size old place size → AddsSizes names (sizes_of_call (size.now ∷ []) called) old new
  called_at old new place size found long is = record {
    as_many = ap length is ∙ length-set old place (get_or old place [] ++ size ∷ []);
    each = λ other name at. ap (λ z. sizes_at z other) is ∙ by other name at (same name called) refl;
  }
    where
      inside : place < length old
      inside = subst (λ k. place < k) (sym long) (place_within names called place found)

      pushed : (xs : List (Bor Name)) → map name_now (xs ++ size ∷ []) ≡ map name_now xs ++ size.now ∷ []
      pushed [] = refl
      pushed (x ∷ xs) = ap (λ z. x.now ∷ z) (pushed xs)

      by : (other : ℕ) (name : Name) → slice_get names other ≡ Some name → (b : Bool) → same name called ≡ b → sizes_at (with_size old place size) other ≡ sizes_at old other ++ (if b then size.now ∷ [] else [])
      by other name at true e =
          let one : other ≡ place = place_only names called place other name distinct found at e in
          subst (λ k. sizes_at (with_size old place size) k ≡ sizes_at old k ++ size.now ∷ []) (sym one)
          (ap (map name_now) (get_or-set_same old place (get_or old place [] ++ size ∷ []) [] inside) ∙ pushed (get_or old place []))
      by other name at false e =
          ap (map name_now) (get_or-set_other old place other (get_or old place [] ++ size ∷ []) [] (λ one. true≢false (sym (place_holds names called place name found (subst (λ k. slice_get names k ≡ Some name) one at)) ∙ e)))
          ∙ sym (append-nil (sizes_at old other))

-- one statement more
joined_push : (name : Name) (around : List Name) (xs : List PlainStmt) (x : PlainStmt) → calling_sizes_in name around (joined (xs ++ x ∷ [])) ≡ calling_sizes_in name around (joined xs) ++ calling_sizes name around x
joined_push name around [] x = append-nil (calling_sizes name around x)
joined_push name around (y ∷ ys) x =
    ap (λ z. calling_sizes name around y ++ z) (joined_push name around ys x)
    ∙ sym (append_assoc (calling_sizes name around y) (calling_sizes_in name around (joined ys)) (calling_sizes name around x))

pub one_stmt : (around : List Name) (stmts : List Stmt) (i : ℕ) (stmt : Stmt) → i < length stmts → stmt ≡ get_or stmts i stmt → (name : Name)
    → sizes_in around (seen_stmts (take i stmts)) name ++ sizes_of around (seen_stmt stmt) name ≡ sizes_in around (seen_stmts (take (i + 1) stmts)) name
one_stmt around stmts i stmt h e name =
    sym (joined_push name around (map seen_stmt (take i stmts)) (seen_stmt stmt)) ∙ ap (λ z. calling_sizes_in name around (joined z)) (sym (take_seen seen_stmt stmts i stmt h e))

pub when_ok : {T E : Type 0} {X : Type 0} (r : Result T E) (new more old : X) → false ≡ is_err r → new ≡ (if is_ok r then more else old) → new ≡ more
when_ok (Ok x) new more old h e = e
when_ok (Err x) new more old h e = cc

-- one empty list more
pub empty_push : (count : ℕ) (lists new : List (List (Bor Name))) → AreEmpty count lists → new ≡ lists ++ [] ∷ [] → AreEmpty (count + 1) new
empty_push count lists new h is = record {
  as_many = ap length is ∙ length-append lists ([] ∷ []) ∙ ap (λ n. n + 1) h.as_many;
  none = λ place. ap (λ z. get_or z place []) is ∙ still lists place h.none;
}
  where
    still : (xs : List (List (Bor Name))) (place : ℕ) → ((k : ℕ) → get_or xs k [] ≡ []) → get_or (xs ++ [] ∷ []) place [] ≡ []
    still [] zero e = refl
    still [] (suc k) e = refl
    still (x ∷ xs) zero e = e zero
    still (x ∷ xs) (suc k) e = still xs k (λ j. e (suc j))

-- the sizes that are put to none are all
pub all_callers : (names : List Name) (body : List Stmt) (count : ℕ) (old new : List (List (Bor Name))) → count ≡ length names → AreEmpty count old → AddsSizes names (sizes_in [] (seen_stmts body)) old new → AreAllCallers names body new
all_callers names body count old new long empty h = record {
  as_many = h.as_many ∙ empty.as_many ∙ long;
  each = λ place name at. h.each place name at ∙ ap (λ z. map name_now z ++ sizes_in [] (seen_stmts body) name) (empty.none place);
}

-- the sizes at the place of an action or a table
pub callers_here : (locals : List Local) (body : List Stmt) (callers : List (List (Bor Name))) (i : ℕ) (local : Local) (sizes default : List (Bor Name)) → AreAllCallers (map name_of_local locals) body callers → i < length locals → local ≡ get_or locals i local
    → sizes ≡ get_or callers i default → AreCallers (name_of_local local) body sizes
callers_here locals body callers i local sizes default all h e read =
    let within : i < length callers = subst (λ k. i < k) (sym (all.as_many ∙ length-map locals name_of_local)) h in
    let first : slice_get callers i ≡ Some (get_or callers i default) = slice_get-get_or callers i default within in
    let second : slice_get callers i ≡ Some (get_or callers i []) = slice_get-get_or callers i [] within in
    let one : get_or callers i default ≡ get_or callers i [] = cc in
    ap (map name_now) (read ∙ one) ∙ all.each i (name_of_local local) (named_here locals i local h e)
  where
    named_here : (xs : List Local) (i : ℕ) (x : Local) → i < length xs → x ≡ get_or xs i x → slice_get (map name_of_local xs) i ≡ Some (name_of_local x)
    named_here [] i x h e = absurd (omega arith)
    named_here (y ∷ ys) zero x h e = ap (λ z. Some (name_of_local z)) (sym e)
    named_here (y ∷ ys) (suc i) x h e = named_here ys i x (omega arith) e
