-- A typed program meets the premises of the laws of meaning and units.
use Rattle.std.proofs.Common.{◌≡◌, ℕ, suc, Bool, true, false, not, ◌&&◌, ◌||◌, List, [], ◌∷◌, ◌++◌, map, flat_map, take, Option, Some, None, IfSome, Contains, slice_get, inl, inr, refl, sym, ap, ◌∙◌, true≢false, arith, codes}
use Rattle.std.proofs.lemmas.Bool.{false_from_ne_true}
use Rattle.std.specs.List.{list_all}
use Rattle.elastic_ast.specs.Tree.{Name, PlainDecl, PlainExpr, PlainEntry, PlainTable, PlainState}
use Rattle.elastic_ast.specs.Typing.Scope.{same, among}
use Rattle.elastic_ast.specs.Typing.LookUps.{is_member, header_fields, action_of, table_of}
use Rattle.elastic_ast.specs.Packets.MainParts.{states_of}
use Rattle.elastic_ast.specs.Typing.Demand.{fixed_names, first_broken}
use Rattle.elastic_ast.specs.Typing.AskedOfNames.{asks_names}
use Rattle.elastic_ast.specs.Typing.AskedInStatements.{no_action_name}
use Rattle.elastic_ast.specs.Typing.Asked.{field_name, asks_state, asks_structs}
use Rattle.elastic_ast.specs.Typing.ParserLoops.{state_names}
use Rattle.elastic_ast.specs.Typing.Typed.{Typed}
use Rattle.elastic_laws.specs.Units.Footprints.{RunFits, EntriesFit, TableFits, TablesFit}
use Rattle.elastic_laws.specs.Packets.TakenLocations.{are_apart, extracts_members, IsExtractable}
use Rattle.elastic_laws.specs.Packets.ParserEnds.{IsLoopFree}
use Rattle.elastic_ast.proofs.Typing.SameNames.{same_told}
use Rattle.elastic_laws.proofs.Typing.TypedFacts.{parts, typed_own, typed_asks}
use Rattle.elastic_laws.proofs.Typing.TypedNames.{Distinct, names_new}
use Rattle.elastic_laws.proofs.Typing.TypedTables.{entry_listed, fallback_listed, no_action_is_undeclared}
use Rattle.elastic_laws.proofs.Typing.TypedHeaders.{header_good, ParserAt, parser_at, parser_ends, extracted_is_member}

all_pass : {A : Type 0} (test : A → Bool) (xs : List A) → ((x : A) → Contains xs x → test x ≡ true) → list_all test xs ≡ true
all_pass test [] h = refl
all_pass test (x ∷ xs) h =
    both (test x) (list_all test xs) (h x (0, omega arith, refl)) (all_pass test xs (λ y c. h y (suc c.0, omega (arith, c.1), c.2)))
  where
    both : (a b : Bool) → a ≡ true → b ≡ true → (a && b) ≡ true
    both true b p q = q
    both false b p q = p

-- a name that is among others stands at a place
named_at : (names : List Name) (name : Name) → among names name ≡ true → (place : ℕ) × (slice_get names place ≡ Some name)
named_at [] name h = absurd (true≢false (sym h))
named_at (first ∷ names) name h = by (same name first) refl h (λ rest. named_at names name rest)
  where
    by : (b : Bool) → same name first ≡ b → (b || among names name) ≡ true → (among names name ≡ true → (place : ℕ) × (slice_get names place ≡ Some name)) → (place : ℕ) × (slice_get (first ∷ names) place ≡ Some name)
    by true e k ih = (0, ap Some (sym (same_told name first e)))
    by false e k ih = let at = ih k in (suc at.0, at.1)

apart : (names : List Name) → Distinct names → are_apart names ≡ true
apart [] h = refl
apart (name ∷ names) h =
    both (among names name) (false_from_ne_true (among names name) (λ e. let at = named_at names name e in let none : 0 ≡ suc at.0 = h 0 (suc at.0) name refl at.1 in absurd (omega (arith, none))))
    (apart names (λ i j other e f. let one : suc i ≡ suc j = h (suc i) (suc j) other e f in omega (arith, one)))
  where
    both : (a : Bool) → a ≡ false → are_apart names ≡ true → (not a && are_apart names) ≡ true
    both true p q = absurd (true≢false p)
    both false p q = q

pub extractable : (allow : Bool) (decls : List PlainDecl) → Typed allow decls → IsExtractable decls
extractable allow decls typed = record {
  members = λ states e. all_pass (extracts_members decls) states
      (λ state c. all_pass (is_member decls) state.extracts (λ header k. extracted_is_member allow decls typed states e state c header k));
  fields = λ header. apart (map field_name (header_fields decls header)) (header_good allow decls (typed_asks allow decls typed) header).distinct;
}

no_reject : (allow : Bool) (names : List Name) → first_broken allow (asks_names [] names) ≡ None → among names (codes "reject") ≡ false
unfolding fixed_names
no_reject allow names h =
    false_from_ne_true (among names (codes "reject")) (λ e. let at = named_at names (codes "reject") e in true≢false (names_new allow [] names h at.0 (codes "reject") at.1).1)

pub loop_free : (allow : Bool) (decls : List PlainDecl) → Typed allow decls → (states : List PlainState) → states_of decls ≡ Some states → IsLoopFree states
loop_free allow decls typed states e =
    let at : ParserAt decls states = parser_at decls states e in
    let own = typed_own allow decls typed at.number (PlainDecl.Parser at.name states) at.here in
    let names = parts allow (asks_structs (take at.number decls)) (asks_names [] (state_names states) ++ flat_map (asks_state (take at.number decls) states) states) own in
    record {
      no_loops = λ state leads. parser_ends allow decls typed states e (inl (state, leads));
      reject = no_reject allow (state_names states) (parts allow (asks_names [] (state_names states)) (flat_map (asks_state (take at.number decls) states) states) names.1).0;
    }

entries_fit : (decls : List PlainDecl) (actions : List Name) (entries : List PlainEntry) → ((entry : PlainEntry) → Contains entries entry → among actions entry.action ≡ true) → EntriesFit decls actions entries
entries_fit decls actions [] h = tt
entries_fit decls actions (entry ∷ entries) h = (
  inl (h entry (0, omega arith, refl)),
  entries_fit decls actions entries (λ other c. h other (suc c.0, omega (arith, c.1), c.2)),
)

run_fits : (allow : Bool) (decls : List PlainDecl) → Typed allow decls → (actions : List Name) (name : Name) → among (no_action_name ∷ actions) name ≡ true → RunFits decls actions name
run_fits allow decls typed actions name h = by (same name no_action_name) refl h
  where
    by : (b : Bool) → same name no_action_name ≡ b → (b || among actions name) ≡ true → RunFits decls actions name
    by true e k = inr (ap (action_of decls) (same_told name no_action_name e) ∙ no_action_is_undeclared allow decls typed)
    by false e k = inl k

table_fits : (allow : Bool) (decls : List PlainDecl) → Typed allow decls → (name : Name) (table : PlainTable) → table_of decls name ≡ Some table → TableFits decls table
table_fits allow decls typed name table e = record {
  entries = entries_fit decls table.actions table.entries (entry_listed allow decls typed name table e);
  fallback = by table.fallback refl;
}
  where
    by : (o : Option (Name × List PlainExpr)) → table.fallback ≡ o → IfSome o (λ run. RunFits decls table.actions run.0)
    by None k = tt
    by (Some run) k = run_fits allow decls typed table.actions run.0 (fallback_listed allow decls typed name table e run k)

pub tables_fit : (allow : Bool) (decls : List PlainDecl) → Typed allow decls → TablesFit decls
tables_fit allow decls typed name = by (table_of decls name) refl
  where
    by : (o : Option PlainTable) → table_of decls name ≡ o → IfSome o (TableFits decls)
    by None e = tt
    by (Some table) e = table_fits allow decls typed name table e
