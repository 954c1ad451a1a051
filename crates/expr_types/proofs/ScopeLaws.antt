-- The names of a scope are those of its declarations, each once, so a look-up finds the one declaration of a name.
use Rattle.std.proofs.lemmas.Bool.{and_from, and_parts, or_left, or_right, or_parts}
use Rattle.std.proofs.lemmas.List.{append-nil}
use Rattle.std.proofs.Common.{◌≡◌, ℕ, zero, suc, ◌+◌, ◌<◌, Bool, true, false, not, cond, ◌||◌, List, [], ◌∷◌, ◌++◌, map, take, length, get_or, Option, Some, None, IfSome, refl, sym, ap, subst, ◌∙◌, true≢false, arith, add-one, append_assoc, is_some}
use Rattle.std.specs.Prelude.{if◌then◌else◌, slice_get, option_and_then}
use Rattle.std.specs.Map.{lookup}
use Rattle.std.proofs.lemmas.List.Folds.{list_any-append}
use Rattle.std.proofs.lemmas.Grind.{flat_map-append}
use Rattle.elastic_ast.specs.declared.declarations.Decl.{Decl}
use Rattle.elastic_ast.specs.Tree.{Name, PlainDecl}
use Rattle.elastic_ast.specs.Seen.{seen_decl, seen_decls}
use Rattle.elastic_ast.specs.Typing.Scope.{same, among, or_else, found, symbol_of}
use Rattle.elastic_ast.specs.Typing.LookUps.{constant_in, header_type_in, register_in, register_size_in}
use Rattle.elastic_ast.specs.Packets.MainParts.{parser_in, control_in, deparser_in}
use Rattle.elastic_ast.specs.Typing.Demand.{Fresh, Plain, met, rule_of, first_broken, fixed_names}
use Rattle.elastic_ast.specs.Typing.AskedOfNames.{asks_names, top_name, top_names}
use Rattle.elastic_ast.specs.Typing.Asked.{DeclKind, is_of_kind, has}
use Rattle.elastic_ast.proofs.Typing.TypedLaws.{if_none}
use Rattle.expr_types.specs.Scoped.{before_of, register_kept, StandsUnder}
use Rattle.program_names.specs.TopNames.{with_decl, named_decls}
use Rattle.program_names.proofs.NewNames.{among-append, new-append, not_among}
use Rattle.program_names.specs.Distinct.{are_new, are_distinct}

take_suc : {X Y : Type 0} (seen : X → Y) (xs : List X) (i : ℕ) (x : X) → i < length xs → x ≡ get_or xs i x → map seen (take (suc i) xs) ≡ map seen (take i xs) ++ seen x ∷ []
take_suc seen [] i x h e = absurd (omega arith)
take_suc seen (y ∷ ys) zero x h e = ap (λ z. seen z ∷ []) (sym e)
take_suc seen (y ∷ ys) (suc i) x h e = ap (λ z. seen y ∷ z) (take_suc seen ys i x (omega arith) e)

-- the elements up to one, as they are seen
pub take_seen : {X Y : Type 0} (seen : X → Y) (xs : List X) (i : ℕ) (x : X) → i < length xs → x ≡ get_or xs i x → map seen (take (i + 1) xs) ≡ map seen (take i xs) ++ seen x ∷ []
take_seen seen xs i x h e = ap (λ k. map seen (take k xs)) (add-one i) ∙ take_suc seen xs i x h e

pub step_take : (ds : List Decl) (i : ℕ) (d : Decl) → i < length ds → d ≡ get_or ds i d → seen_decls (take (i + 1) ds) ≡ seen_decls (take i ds) ++ seen_decl d ∷ []
step_take = take_seen seen_decl

take_at : (ds : List Decl) (i : ℕ) (d : Decl) → slice_get ds i ≡ Some d → seen_decls (take (suc i) ds) ≡ seen_decls (take i ds) ++ seen_decl d ∷ []
take_at [] i d e = cc
take_at (x ∷ ds) zero d e = let s : x ≡ d = cc in ap (λ z. seen_decl z ∷ []) s
take_at (x ∷ ds) (suc i) d e = ap (λ z. seen_decl x ∷ z) (take_at ds i d e)

pub take_next : (ds : List Decl) (i : ℕ) (d : Decl) → slice_get ds i ≡ Some d → seen_decls (take (i + 1) ds) ≡ seen_decls (take i ds) ++ seen_decl d ∷ []
take_next ds i d e = ap (λ k. seen_decls (take k ds)) (add-one i) ∙ take_at ds i d e

-- names that may be declared are new
pub new_names : (allow : Bool) (before ns : List Name) → first_broken allow (asks_names before ns) ≡ None → are_new before ns ≡ true
new_names allow before [] h = refl
new_names allow before (n ∷ ns) h =
    and_from (not (among before n)) (are_new (before ++ n ∷ []) ns) ((and_parts (not (among before n)) (not (among fixed_names n)) here.0).0)
    (new_names allow (before ++ n ∷ []) ns (if_none (met allow (Plain n)) (rule_of (Plain n)) (first_broken allow (asks_names (before ++ n ∷ []) ns)) here.1).1)
  where
    here : (met allow (Fresh before n) ≡ true) × (first_broken allow (Plain n ∷ asks_names (before ++ n ∷ []) ns) ≡ None)
    here = if_none (met allow (Fresh before n)) (rule_of (Fresh before n)) (first_broken allow (Plain n ∷ asks_names (before ++ n ∷ []) ns)) h

pub distinct_next : (ds : List PlainDecl) (x : PlainDecl) → are_new (top_names ds) (top_name x) ≡ true → are_distinct (top_names ds) ≡ true → are_distinct (top_names (ds ++ x ∷ [])) ≡ true
distinct_next ds x fresh p = ap are_distinct (flat_map-append top_name ds (x ∷ []) ∙ ap (λ z. top_names ds ++ z) (append-nil (top_name x))) ∙ new-append [] (top_names ds) (top_name x) p fresh

or_none : {A : Type 0} (a : Option A) → or_else a None ≡ a
or_none None = refl
or_none (Some x) = refl

new_after : (before xs ys : List Name) → are_new before (xs ++ ys) ≡ true → are_new (before ++ xs) ys ≡ true
new_after before [] ys p = ap (λ z. are_new z ys) (append-nil before) ∙ p
new_after before (x ∷ xs) ys p = ap (λ z. are_new z ys) (sym (append_assoc before (x ∷ []) xs)) ∙ new_after (before ++ x ∷ []) xs ys ((and_parts (not (among before x)) (are_new (before ++ x ∷ []) (xs ++ ys)) p).1)

-- a name is looked up among the names of one declaration, and then among the rest
lookup_names : (n : Name) (d : PlainDecl) (ns : List Name) (rest : List (Name × PlainDecl)) → lookup (same n) (map (with_decl d) ns ++ rest) ≡ cond (among ns n) (Some d) (lookup (same n) rest)
lookup_names n d [] rest = refl
lookup_names n d (m ∷ ms) rest = by (same n m) (lookup_names n d ms rest)
  where
    by : (b : Bool) → lookup (same n) (map (with_decl d) ms ++ rest) ≡ cond (among ms n) (Some d) (lookup (same n) rest) → cond b (Some d) (lookup (same n) (map (with_decl d) ms ++ rest)) ≡ cond (b || among ms n) (Some d) (lookup (same n) rest)
    by true ih = refl
    by false ih = ih

-- a declaration that doesn't declare the name gives nothing for it
module _ {B : Type 0} (n : Name) (pick : PlainDecl → Option B) (quiet : (x : PlainDecl) → among (top_name x) n ≡ false → pick x ≡ None) where
  nothing_left : (ds : List PlainDecl) → among (top_names ds) n ≡ false → found pick ds ≡ None
  nothing_left [] h = refl
  nothing_left (d ∷ ds) h = by (among (top_name d) n) refl (λ k. nothing_left ds k)
    where
      split : (among (top_name d) n || among (top_names ds) n) ≡ false
      split = sym (among-append n (top_name d) (top_names ds)) ∙ h

      by : (b : Bool) → among (top_name d) n ≡ b → (among (top_names ds) n ≡ false → found pick ds ≡ None) → or_else (pick d) (found pick ds) ≡ None
      by true e ih = absurd (true≢false (sym (or_left (among (top_name d) n) (among (top_names ds) n) e) ∙ split))
      by false e ih = ap (λ z. or_else z (found pick ds)) (quiet d e) ∙ ih ((or_parts (among (top_name d) n) (among (top_names ds) n) split).1)

  found_named : (before : List Name) (ds : List PlainDecl) → are_new before (top_names ds) ≡ true → found pick ds ≡ option_and_then pick (lookup (same n) (named_decls ds))
  found_named before [] p = refl
  found_named before (d ∷ ds) p = by (among (top_name d) n) refl (found_named (before ++ top_name d) ds (new_after before (top_name d) (top_names ds) p))
    where
      by : (b : Bool) → among (top_name d) n ≡ b → found pick ds ≡ option_and_then pick (lookup (same n) (named_decls ds)) → or_else (pick d) (found pick ds) ≡ option_and_then pick (lookup (same n) (named_decls (d ∷ ds)))
      by true e ih =
          ap (λ z. or_else (pick d) z)
          (nothing_left ds (not_among n (before ++ top_name d) (top_names ds) (new_after before (top_name d) (top_names ds) p) (among-append n before (top_name d) ∙ or_right (among before n) (among (top_name d) n) e)))
          ∙ or_none (pick d) ∙ sym (ap (option_and_then pick) (lookup_names n d (top_name d) (named_decls ds) ∙ ap (λ b. cond b (Some d) (lookup (same n) (named_decls ds))) e))
      by false e ih =
          ap (λ z. or_else z (found pick ds)) (quiet d e) ∙ ih
          ∙ sym (ap (option_and_then pick) (lookup_names n d (top_name d) (named_decls ds) ∙ ap (λ b. cond b (Some d) (lookup (same n) (named_decls ds))) e))

quiet_symbol : (n : Name) (x : PlainDecl) → among (top_name x) n ≡ false → symbol_of n x ≡ None
quiet_symbol n (PlainDecl.Symbol m) h = ap (λ b. if b then Some m else None) ((or_parts (same n m) false h).0)
quiet_symbol n _ h = refl

quiet_constant : (n : Name) (x : PlainDecl) → among (top_name x) n ≡ false → constant_in n x ≡ None
quiet_constant n (PlainDecl.Const m width value) h = ap (λ b. if b then Some (width, value) else None) ((or_parts (same n m) false h).0)
quiet_constant n _ h = refl

quiet_header : (n : Name) (x : PlainDecl) → among (top_name x) n ≡ false → header_type_in n x ≡ None
quiet_header n (PlainDecl.Header m fields) h = ap (λ b. if b then Some fields else None) ((or_parts (same n m) false h).0)
quiet_header n _ h = refl

quiet_register : (n : Name) (x : PlainDecl) → among (top_name x) n ≡ false → register_in n x ≡ None
quiet_register n (PlainDecl.Register m width cells size) h = ap (λ b. if b then Some width else None) ((or_parts (same n m) false h).0)
quiet_register n _ h = refl

quiet_size : (n : Name) (x : PlainDecl) → among (top_name x) n ≡ false → register_size_in n x ≡ None
quiet_size n (PlainDecl.Register m width cells size) h = ap (λ b. if b then Some size else None) ((or_parts (same n m) false h).0)
quiet_size n _ h = refl

quiet_kept : (n : Name) (x : PlainDecl) → among (top_name x) n ≡ false → register_kept n x ≡ None
quiet_kept n (PlainDecl.Register m width cells size) h = ap (λ b. if b then Some (cells, width) else None) ((or_parts (same n m) false h).0)
quiet_kept n _ h = refl

quiet_parser : (n : Name) (x : PlainDecl) → among (top_name x) n ≡ false → parser_in n x ≡ None
quiet_parser n (PlainDecl.Parser m states) h = ap (λ b. if b then Some states else None) ((or_parts (same n m) false h).0)
quiet_parser n _ h = refl

quiet_control : (n : Name) (x : PlainDecl) → among (top_name x) n ≡ false → control_in n x ≡ None
quiet_control n (PlainDecl.Control m locals body) h = ap (λ b. if b then Some body else None) ((or_parts (same n m) false h).0)
quiet_control n _ h = refl

quiet_deparser : (n : Name) (x : PlainDecl) → among (top_name x) n ≡ false → deparser_in n x ≡ None
quiet_deparser n (PlainDecl.Deparser m emits) h = ap (λ b. if b then Some emits else None) ((or_parts (same n m) false h).0)
quiet_deparser n _ h = refl

-- what stands under a name has that name
named_under : (n : Name) (ds : List PlainDecl) → IfSome (lookup (same n) (named_decls ds)) (λ d. among (top_name d) n ≡ true)
named_under n [] = tt
named_under n (d ∷ ds) = by (among (top_name d) n) refl (named_under n ds)
  where
    by : (b : Bool) → among (top_name d) n ≡ b → IfSome (lookup (same n) (named_decls ds)) (λ x. among (top_name x) n ≡ true) → IfSome (lookup (same n) (named_decls (d ∷ ds))) (λ x. among (top_name x) n ≡ true)
    by b e h = subst (λ (z : Option PlainDecl). IfSome z (λ x. among (top_name x) n ≡ true)) (sym (lookup_names n d (top_name d) (named_decls ds) ∙ ap (λ z. cond z (Some d) (lookup (same n) (named_decls ds))) e)) (on b e h)
      where
        on : (b : Bool) → among (top_name d) n ≡ b → IfSome (lookup (same n) (named_decls ds)) (λ x. among (top_name x) n ≡ true) → IfSome (cond b (Some d) (lookup (same n) (named_decls ds))) (λ x. among (top_name x) n ≡ true)
        on true e h = e
        on false e h = h

-- a name is declared where something stands under it
declared_under : (n : Name) (ds : List PlainDecl) → is_some (lookup (same n) (named_decls ds)) ≡ among (top_names ds) n
declared_under n [] = refl
declared_under n (d ∷ ds) =
    ap is_some (lookup_names n d (top_name d) (named_decls ds)) ∙ on (among (top_name d) n) (declared_under n ds) ∙ sym (among-append n (top_name d) (top_names ds))
  where
    on : (b : Bool) → is_some (lookup (same n) (named_decls ds)) ≡ among (top_names ds) n → is_some (cond b (Some d) (lookup (same n) (named_decls ds))) ≡ (b || among (top_names ds) n)
    on true h = refl
    on false h = h

-- what stands under a name in a scope
pub stands_under : (n : Name) (inside place : List Decl × ℕ) (o : Option PlainDecl) → o ≡ lookup (same n) (named_decls (before_of inside)) → are_distinct (top_names (before_of inside)) ≡ true → inside ≡ place → StandsUnder n (before_of place) o
stands_under n inside place o here p e = record {
  named = subst (λ (z : Option PlainDecl). IfSome z (λ d. among (top_name d) n ≡ true)) (sym here) (named_under n (before_of inside));
  declared = ap is_some here ∙ declared_under n (before_of inside) ∙ ap (λ z. among (top_names (before_of z)) n) e;
  symbol = by (symbol_of n) (quiet_symbol n);
  constant = by (constant_in n) (quiet_constant n);
  header = by (header_type_in n) (quiet_header n);
  register = by (register_in n) (quiet_register n);
  size = by (register_size_in n) (quiet_size n);
  kept = by (register_kept n) (quiet_kept n);
  parser = by (parser_in n) (quiet_parser n);
  control = by (control_in n) (quiet_control n);
  deparser = by (deparser_in n) (quiet_deparser n);
}
  where
    by : {B : Type 0} (pick : PlainDecl → Option B) → ((x : PlainDecl) → among (top_name x) n ≡ false → pick x ≡ None) → found pick (before_of place) ≡ option_and_then pick o
    by pick quiet = ap (λ z. found pick (before_of z)) (sym e) ∙ found_named n pick quiet [] (before_of inside) p ∙ ap (option_and_then pick) (sym here)

-- one more declaration of a kind that stands once
pub has_step : (kind : DeclKind) (ds : List PlainDecl) (x : PlainDecl) (after : List PlainDecl) (known : Bool) → after ≡ ds ++ x ∷ [] → known ≡ has kind ds → (known || is_of_kind kind x) ≡ has kind after
has_step kind ds x after known a h = ap (λ z. z || is_of_kind kind x) h ∙ sym (list_any-append (is_of_kind kind) ds (x ∷ []) ∙ ap (λ z. has kind ds || z) (or_nothing (is_of_kind kind x))) ∙ ap (has kind) (sym a)
  where
    or_nothing : (b : Bool) → (b || false) ≡ b
    or_nothing true = refl
    or_nothing false = refl
