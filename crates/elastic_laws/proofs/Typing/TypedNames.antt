-- The names of one scope of a typed program: no two are the same, and none is a fixed one.
use Rattle.std.proofs.Common.{◌≡◌, ℕ, zero, suc, Bool, true, false, not, ◌&&◌, List, [], ◌∷◌, ◌++◌, Some, None, refl, sym, ap, ◌∙◌, true≢false}
use Rattle.std.proofs.lemmas.Bool.{and_parts, not-true, or_right, or_left, or_parts}
use Rattle.std.specs.Prelude.{slice_get}
use Rattle.std.proofs.lemmas.List.Folds.{list_any-append}
use Rattle.elastic_ast.specs.Tree.{Name}
use Rattle.elastic_ast.specs.Typing.Scope.{same, among}
use Rattle.elastic_ast.specs.Typing.Demand.{Fresh, Plain, first_broken, fixed_names}
use Rattle.elastic_ast.specs.Typing.AskedOfNames.{asks_names}
use Rattle.elastic_laws.proofs.Typing.TypedFacts.{head_met}
use Rattle.elastic_ast.proofs.Typing.SameNames.{same_self}

-- no two places of a list have one name
abbrev pub Distinct : List Name → Type 0
Distinct names = (i j : ℕ) (name : Name) → slice_get names i ≡ Some name → slice_get names j ≡ Some name → i ≡ j

later : (allow : Bool) (before : List Name) (m : Name) (ms : List Name) → first_broken allow (asks_names before (m ∷ ms)) ≡ None → first_broken allow (asks_names (before ++ m ∷ []) ms) ≡ None
later allow before m ms h = (head_met allow (Plain m) (asks_names (before ++ m ∷ []) ms) (head_met allow (Fresh before m) (Plain m ∷ asks_names (before ++ m ∷ []) ms) h).1).1

-- a new name isn't among those before, nor among the fixed ones
pub names_new : (allow : Bool) (before names : List Name) → first_broken allow (asks_names before names) ≡ None → (i : ℕ) (n : Name) → slice_get names i ≡ Some n → (among before n ≡ false) × (among fixed_names n ≡ false)
names_new allow before [] h i n e = cc
names_new allow before (m ∷ ms) h zero n e =
    let s : m ≡ n = cc in
    let first : (not (among before m) && not (among fixed_names m)) ≡ true = (head_met allow (Fresh before m) (Plain m ∷ asks_names (before ++ m ∷ []) ms) h).0 in (
      ap (among before) (sym s) ∙ not-true (among before m) ((and_parts (not (among before m)) (not (among fixed_names m)) first).0),
      ap (among fixed_names) (sym s) ∙ not-true (among fixed_names m) ((and_parts (not (among before m)) (not (among fixed_names m)) first).1),
    )
names_new allow before (m ∷ ms) h (suc j) n e =
    let p = names_new allow (before ++ m ∷ []) ms (later allow before m ms h) j n e in
    ((or_parts (among before n) (among (m ∷ []) n) (sym (list_any-append (same n) before (m ∷ [])) ∙ p.0)).0, p.1)

not_again : (allow : Bool) (before : List Name) (m : Name) (ms : List Name) → first_broken allow (asks_names before (m ∷ ms)) ≡ None → (j : ℕ) → slice_get ms j ≡ Some m → ⊥
not_again allow before m ms h j e =
    true≢false (sym (list_any-append (same m) before (m ∷ []) ∙ or_right (among before m) (among (m ∷ []) m) (or_left (same m m) false (same_self m))) ∙ (names_new allow (before ++ m ∷ []) ms (later allow before m ms h) j m e).0)

pub names_distinct : (allow : Bool) (before names : List Name) → first_broken allow (asks_names before names) ≡ None → Distinct names
names_distinct allow before [] h i j n e f = cc
names_distinct allow before (m ∷ ms) h zero zero n e f = refl
names_distinct allow before (m ∷ ms) h zero (suc j) n e f = let s : m ≡ n = cc in absurd (not_again allow before m ms h j (f ∙ ap Some (sym s)))
names_distinct allow before (m ∷ ms) h (suc i) zero n e f = let s : m ≡ n = cc in absurd (not_again allow before m ms h i (e ∙ ap Some (sym s)))
names_distinct allow before (m ∷ ms) h (suc i) (suc j) n e f = ap suc (names_distinct allow (before ++ m ∷ []) ms (later allow before m ms h) i j n e f)
