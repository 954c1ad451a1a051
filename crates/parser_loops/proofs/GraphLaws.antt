-- The states by their numbers and by their names.
use Rattle.std.proofs.Common.{◌≡◌, ◌↔◌, ℕ, zero, suc, ◌+◌, ◌<◌, ◌≤◌, inl, inr, Bool, true, false, cond, ◌||◌, List, [], ◌∷◌, map, length, get_or, Option, Some, None, is_some, refl, sym, ap, subst, ◌∙◌, true≢false, arith}
use Rattle.std.specs.Prelude.{slice_get}
use Rattle.std.specs.Option.{option_map}
use Rattle.std.proofs.lemmas.Bool.{or_left, or_right, cases_lt, cases_Bool}
use Rattle.std.proofs.lemmas.List.{length-map}
use Rattle.std.proofs.lemmas.Option.{slice_get-map, slice_get_read, slice_get_within}
use denote.Bor.{Bor}
use Rattle.elastic_ast.specs.declared.declarations.State.{State}
use Rattle.elastic_ast.specs.declared.declarations.Keyset.{Keyset}
use Rattle.elastic_ast.specs.Tree.{Name, PlainState}
use Rattle.elastic_ast.specs.Seen.{seen_case, seen_state}
use Rattle.elastic_ast.specs.Typing.ParserLoops.{case_target, state_name, state_names}
use Rattle.elastic_ast.specs.Typing.Scope.{same, among}
use Rattle.elastic_ast.proofs.Typing.SameNames.{same_if, same_told}
use Rattle.parser_loops.specs.Transitions.{Distinct, targets_at, IsCase, entered, HasNumbers}

-- an element of a list that another shows
pub seen_at : {A B : Type 0} (seen : A → B) (items : List A) (place : ℕ) (item : A) → place < length items → item ≡ get_or items place item → slice_get (map seen items) place ≡ Some (seen item)
seen_at seen items place item within at = slice_get-map seen items place ∙ ap (option_map seen) (slice_get_read items (length items) place item refl within at)

pub name_at : (states : List State) (place : ℕ) (state : State) → place < length states → state ≡ get_or states place state → slice_get (state_names (map seen_state states)) place ≡ Some state.name
name_at states place state within at = slice_get-map state_name (map seen_state states) place ∙ ap (option_map state_name) (seen_at seen_state states place state within at)

pub case_at : (cases : List (Keyset × Name)) (place : ℕ) (case : Keyset × Name) → place < length cases → case ≡ get_or cases place case → slice_get (map case_target (map seen_case cases)) place ≡ Some case.1
case_at cases place case within at = slice_get-map case_target (map seen_case cases) place ∙ ap (option_map case_target) (seen_at seen_case cases place case within at)

-- what is among the names stands at some place
pub placed : (names : List Name) (name : Name) → among names name ≡ true → (place : ℕ) × (slice_get names place ≡ Some name)
placed [] name h = absurd (true≢false (sym h))
placed (first ∷ rest) name h = by (same name first) refl (placed rest name)
  where
    by : (b : Bool) → same name first ≡ b → (among rest name ≡ true → (place : ℕ) × (slice_get rest place ≡ Some name)) → (place : ℕ) × (slice_get (first ∷ rest) place ≡ Some name)
    by true e further = (zero, ap Some (sym (same_told name first e)))
    by false e further = let p = further (ap (λ b. b || among rest name) (sym e) ∙ h) in (suc p.0, p.1)

-- and the other way
pub there : (names : List Name) (place : ℕ) (name : Name) → slice_get names place ≡ Some name → among names name ≡ true
there [] place name h = cc
there (first ∷ rest) zero name h = let e : name ≡ first = cc in or_left (same name first) (among rest name) (same_if name first e)
there (first ∷ rest) (suc place) name h = or_right (same name first) (among rest name) (there rest place name h)

-- a table has the numbers of the states before one
abbrev pub Numbered : List Name → ℕ → List (Bor (List ℕ) × ℕ) → Type 0
Numbered names count entries = (name : Name) (number : ℕ) → (entered entries name ≡ Some number) ↔ ((number < count) × (slice_get names number ≡ Some name))

pub numbered_step : (names : List Name) (count : ℕ) (key : Name) (old new : List (Bor (List ℕ) × ℕ)) → Distinct names → slice_get names count ≡ Some key
    → ((name : Name) → entered new name ≡ cond (same key name) (Some count) (entered old name)) → Numbered names count old → Numbered names (count + 1) new
numbered_step names count key old new distinct at updated before name number = by (same key name) refl
  where
    known : key ≡ name → entered new name ≡ Some count → (entered new name ≡ Some number) ↔ ((number < count + 1) × (slice_get names number ≡ Some name))
    known k e = (
      λ h. let s : count ≡ number = cc in (omega arith, subst (λ n. slice_get names n ≡ Some name) s (at ∙ ap Some k)),
      λ h. e ∙ ap Some (distinct count number name (at ∙ ap Some k) h.1),
    )

    earlier : same key name ≡ false → number < count + 1 → slice_get names number ≡ Some name → number < count
    earlier differ within h =
        elim (cases_lt number count) [
          | inl below ↦ below
          | inr above ↦ (
              let s : number ≡ count = omega arith in
              let k : key ≡ name = let f = subst (λ n. slice_get names n ≡ Some name) s h in cc in
              absurd (true≢false (sym (same_if key name k) ∙ differ))
              )
        ]

    by : (b : Bool) → same key name ≡ b → (entered new name ≡ Some number) ↔ ((number < count + 1) × (slice_get names number ≡ Some name))
    by true e = known (same_told key name e) (updated name ∙ ap (λ b. cond b (Some count) (entered old name)) e)
    by false e =
        let kept : entered new name ≡ entered old name = updated name ∙ ap (λ b. cond b (Some count) (entered old name)) e in (
          λ h. let p = (before name number).0 (sym kept ∙ h) in (let q : number < count = p.0 in omega arith, p.1),
          λ h. kept ∙ (before name number).1 (earlier e h.0 h.1, h.1),
        )

-- a table knows the names of states alone
pub known_name : (states : List PlainState) (entries : List (Bor (List ℕ) × ℕ)) (name : Name) → HasNumbers states entries → is_some (entered entries name) ≡ among (state_names states) name
known_name states entries name numbers = by (entered entries name) refl
  where
    by : (o : Option ℕ) → entered entries name ≡ o → is_some o ≡ among (state_names states) name
    by (Some number) e = sym (there (state_names states) number name ((numbers name number).0 e))
    by None e =
        elim (cases_Bool (among (state_names states) name)) [
          | inl h ↦ let p = placed (state_names states) name h in let f : None ≡ Some p.0 = sym e ∙ (numbers name p.0).1 p.1 in cc
          | inr h ↦ sym h
        ]

-- what the table has for the name of a case is the state to which the case goes on
pub case_is : (states : List PlainState) (entries : List (Bor (List ℕ) × ℕ)) (state case : ℕ) (name : Name) (result : Option ℕ) → HasNumbers states entries → slice_get (targets_at states state) case ≡ Some name
    → result ≡ entered entries name → (other : ℕ) → (result ≡ Some other) ↔ IsCase states state case other
case_is states entries state case name result numbers at found other = (
  λ h. (name, at, (numbers name other).0 (sym found ∙ h)),
  λ h. found ∙ (numbers name other).1 (h.2 ∙ sym h.1 ∙ at),
)

-- a table that has the numbers of all states
pub all_numbered : (states : List PlainState) (count : ℕ) (entries : List (Bor (List ℕ) × ℕ)) → length states ≤ count → Numbered (state_names states) count entries → HasNumbers states entries
all_numbered states count entries whole numbered name number = (
  λ h. ((numbered name number).0 h).1,
  λ h.
      let within : number < length (state_names states) = slice_get_within (state_names states) number name h in
      let long : length (state_names states) ≡ length states = length-map states state_name in
      (numbered name number).1 (omega arith, h),
)
