-- A typed program has one control, so that what its controls declare is what this one does.
use Rattle.std.proofs.Common.{◌≡◌, ℕ, zero, suc, Bool, true, false, ◌||◌, List, [], ◌∷◌, ◌++◌, take, Some, refl, sym, ap, ◌∙◌, true≢false}
use Rattle.std.specs.Prelude.{slice_get}
use Rattle.std.proofs.lemmas.Bool.{not-true}
use Rattle.elastic_ast.specs.Tree.{Name, PlainDecl, PlainStmts, PlainLocal}
use Rattle.elastic_ast.specs.Typing.LookUps.{locals_in, locals_of}
use Rattle.elastic_ast.specs.Typing.Demand.{First}
use Rattle.elastic_ast.specs.Typing.AskedOfNames.{asks_names, top_name, top_names}
use Rattle.elastic_ast.specs.Typing.Asked.{DeclKind, is_of_kind, has, is_first, asks_decl}
use Rattle.elastic_ast.specs.Typing.Typed.{Typed}
use Rattle.elastic_laws.proofs.Typing.TypedFacts.{parts, head_met, typed_asks}

abbrev is_control : PlainDecl → Bool
is_control decl = is_of_kind DeclKind.Control decl

-- no control stands before another one
abbrev IsFirstControl : List PlainDecl → Type 0
IsFirstControl ds = (d : ℕ) (x : PlainDecl) → slice_get ds d ≡ Some x → is_control x ≡ true → has DeclKind.Control (take d ds) ≡ false

first_control : (allow : Bool) (ds : List PlainDecl) → Typed allow ds → IsFirstControl ds
first_control allow ds t d x e control =
    by x control (head_met allow (First (is_first (take d ds) x)) (asks_decl (take d ds) x)
    (parts allow (asks_names (top_names (take d ds)) (top_name x)) (First (is_first (take d ds) x) ∷ asks_decl (take d ds) x) (typed_asks allow ds t d x e)).1).0
  where
    by : (x : PlainDecl) → is_control x ≡ true → is_first (take d ds) x ≡ true → has DeclKind.Control (take d ds) ≡ false
    by (PlainDecl.Control name locals body) c h = not-true (has DeclKind.Control (take d ds)) h
    by other c h = absurd (true≢false (sym c))

other_declares_none : (x : PlainDecl) → is_control x ≡ false → locals_in x ≡ []
other_declares_none (PlainDecl.Control name locals body) h = absurd (true≢false h)
other_declares_none other h = refl

-- behind the control there is no other
none_behind : (ds : List PlainDecl) → ((d : ℕ) (x : PlainDecl) → slice_get ds d ≡ Some x → is_control x ≡ false) → locals_of ds ≡ []
none_behind [] h = refl
none_behind (x ∷ ds) h =
    ap (λ z. z ++ locals_of ds) (other_declares_none x (h 0 x refl)) ∙ none_behind ds (λ d y e. h (suc d) y e)

later_first : (y : PlainDecl) (ds : List PlainDecl) → is_control y ≡ false → IsFirstControl (y ∷ ds) → IsFirstControl ds
later_first y ds none h d x e c = drops (is_control y) (has DeclKind.Control (take d ds)) (h (suc d) x e c)
  where
    drops : (a b : Bool) → (a || b) ≡ false → b ≡ false
    drops true b k = absurd (true≢false k)
    drops false b k = k

-- what the declarations declare before bodies is what their one control does
pub one_control : (ds : List PlainDecl) → IsFirstControl ds → (d : ℕ) (x : PlainDecl) → slice_get ds d ≡ Some x → is_control x ≡ true → locals_of ds ≡ locals_in x
one_control [] h d x e c = cc
one_control (y ∷ ds) h zero x e c =
    let s : y ≡ x = cc in
    ap (λ z. locals_in y ++ z) (none_behind ds (λ i z f. no_more i z f (ap is_control s ∙ c))) ∙ last (locals_in y) ∙ ap locals_in s
  where
    last : (xs : List PlainLocal) → xs ++ [] ≡ xs
    last [] = refl
    last (z ∷ xs) = ap (λ w. z ∷ w) (last xs)

    no_more : (i : ℕ) (z : PlainDecl) → slice_get ds i ≡ Some z → is_control y ≡ true → is_control z ≡ false
    no_more i z f first = by (is_control z) refl
      where
        by : (b : Bool) → is_control z ≡ b → is_control z ≡ false
        by false e = e
        by true e = absurd (true≢false (sym (ap (λ v. v || has DeclKind.Control (take i ds)) first) ∙ h (suc i) z f e))
one_control (y ∷ ds) h (suc d) x e c =
    by (is_control y) refl (λ none. one_control ds (later_first y ds none h) d x e c)
  where
    by : (b : Bool) → is_control y ≡ b → (is_control y ≡ false → locals_of ds ≡ locals_in x) → locals_of (y ∷ ds) ≡ locals_in x
    by false none ih = ap (λ z. z ++ locals_of ds) (other_declares_none y none) ∙ ih none
    by true here ih = absurd (true≢false (sym (ap (λ v. v || has DeclKind.Control (take d ds)) here) ∙ h (suc d) x e c))

pub locals_are : (allow : Bool) (ds : List PlainDecl) → Typed allow ds → (d : ℕ) (name : Name) (locals : List PlainLocal) (body : PlainStmts) → slice_get ds d ≡ Some (PlainDecl.Control name locals body) → locals_of ds ≡ locals
locals_are allow ds t d name locals body e = one_control ds (first_control allow ds t) d (PlainDecl.Control name locals body) e refl
