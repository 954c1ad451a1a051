-- A parser whose states can't come back ends after as many states as there are.
use Rattle.std.proofs.Common.{◌≡◌, ℕ, zero, suc, ◌+◌, ◌<◌, ◌≤◌, Bool, true, false, ◌||◌, eqb, List, [], ◌∷◌, map, length, find, Option, Some, None, option_and_then, unwrap_or, ◌⊎◌, inl, inr, refl, sym, ap, subst, ◌∙◌, true≢false, arith, codes, cond, slice_get, if◌then◌else◌}
use Rattle.std.specs.List.{list_any, IsDistinct, AllByRecursion}
use Rattle.std.proofs.lemmas.Map.Steps.{length-le_from_distinct_below}
use Rattle.std.proofs.lemmas.Option.{slice_get_within}
use Rattle.std.proofs.lemmas.Bool.{eqb-true, or_right, or_cases}
use Rattle.std.proofs.lemmas.Slice.Eq.{bytes_eq-Decides}
use Rattle.elastic_ast.specs.Tree.{Name, PlainDecl, PlainKeyset, PlainNext, PlainState}
use Rattle.elastic_ast.specs.Typing.Scope.{same, among, or_else, found}
use Rattle.elastic_ast.specs.Typing.Types.{Ty, Bare, type_of}
use Rattle.elastic_ast.specs.Meaning.Memory.{Memory}
use Rattle.elastic_ast.specs.Meaning.Values.{Setting, names_of, value}
use Rattle.elastic_ast.specs.Meaning.Matches.{in_set}
use Rattle.elastic_ast.specs.Meaning.Written.{outside}
use Rattle.elastic_ast.specs.Typing.ParserLoops.{state_names, case_target, targets_of, goes_on, goes, LeadsToState, direct, further}
use Rattle.elastic_ast.specs.Packets.Taken.{Parsed, all_extracted, case_next, next_of, parsed_from}
use Rattle.elastic_laws.specs.Packets.ParserEnds.{IsLoopFree, EndsInTime}
use Rattle.elastic_ast.proofs.Typing.SameNames.{same_told}

-- what a search finds, and where

pub record IsFound {A : Type 0} (test : A → Bool) (xs : List A) (x : A) : Type 0 where
  pub place : ℕ
  pub there : slice_get xs place ≡ Some x
  pub passes : test x ≡ true

find_tells : {A : Type 0} (test : A → Bool) (xs : List A) (x : A) → find test xs ≡ Some x → IsFound test xs x
find_tells test [] x h = cc
find_tells test (y ∷ ys) x h = by (test y) refl h (find_tells test ys x)
  where
    by : (b : Bool) → test y ≡ b → cond b (Some y) (find test ys) ≡ Some x → (find test ys ≡ Some x → IsFound test ys x) → IsFound test (y ∷ ys) x
    by true e h ih = record { place = 0; there = h; passes = (let same : y ≡ x = cc in ap test (sym same) ∙ e) }
    by false e h ih = let rest = ih h in record { place = suc rest.place; there = rest.there; passes = rest.passes }

named_there : (states : List PlainState) (place : ℕ) (state : PlainState) (name : Name) → slice_get states place ≡ Some state → state.name ≡ name → among (state_names states) name ≡ true
named_there [] place state name h e = cc
named_there (first ∷ states) zero state name h e =
    let is : first ≡ state = cc in
    ap (λ (b : Bool). b || among (state_names states) name) ((bytes_eq-Decides name first.name).1 (sym e ∙ ap (λ (s : PlainState). s.name) (sym is)))
named_there (first ∷ states) (suc place) state name h e = or_right (same name first.name) (among (state_names states) name) (named_there states place state name h e)

-- the next state is one to which the transition leads, or the refusal

abbrev IsNext : List Name → Name → Type 0
IsNext targets name = (among targets name ≡ true) ⊎ (name ≡ codes "reject")

cases_next : (setting : Setting) (memory : Memory) (width : Ty) (key : ℕ) (cases : List (PlainKeyset × Name)) → IsNext (map case_target cases) (unwrap_or (found (case_next setting memory width key) cases) (codes "reject"))
cases_next setting memory width key [] = inr refl
cases_next setting memory width key (option ∷ cases) = by (in_set setting memory width key option.0) (cases_next setting memory width key cases)
  where
    by : (b : Bool) → IsNext (map case_target cases) (unwrap_or (found (case_next setting memory width key) cases) (codes "reject"))
        → IsNext (option.1 ∷ map case_target cases) (unwrap_or (or_else (if b then Some option.1 else None) (found (case_next setting memory width key) cases)) (codes "reject"))
    by true ih = inl (ap (λ (b : Bool). b || among (map case_target cases) option.1) ((bytes_eq-Decides option.1 option.1).1 refl))
    by false (inl h) = inl (or_right (same (unwrap_or (found (case_next setting memory width key) cases) (codes "reject")) option.1) (among (map case_target cases) (unwrap_or (found (case_next setting memory width key) cases) (codes "reject"))) h)
    by false (inr h) = inr h

next_is : (setting : Setting) (memory : Memory) (next : PlainNext) → IsNext (targets_of next) (next_of setting memory next)
next_is setting memory (PlainNext.To name) = inl (ap (λ (b : Bool). b || false) ((bytes_eq-Decides name name).1 refl))
next_is setting memory (PlainNext.Select key cases) = cases_next setting memory (type_of (names_of setting) key) (value setting memory key Bare) cases

-- the states that were passed

abbrev AreStates : List PlainState → List ℕ → Type 0
AreStates states passed = (place : ℕ) → list_any (eqb place) passed ≡ true → place < length states

-- each of them leads to the state that has the name
abbrev AllLead : List PlainState → List ℕ → Name → Type 0
AllLead states passed name = (place other : ℕ) (state : PlainState) → list_any (eqb place) passed ≡ true → slice_get states other ≡ Some state → state.name ≡ name → LeadsToState states place other

pub record Passed (states : List PlainState) (passed : List ℕ) (name : Name) : Type 0 where
  pub apart : IsDistinct eqb passed
  pub are_states : AreStates states passed
  pub lead : AllLead states passed name

none_equal : (place : ℕ) (passed : List ℕ) → list_any (eqb place) passed ≡ false → AllByRecursion (λ y. eqb place y ≡ false) passed
none_equal place [] h = tt
none_equal place (first ∷ passed) h = by (eqb place first) refl h (λ rest. none_equal place passed rest)
  where
    by : (b : Bool) → eqb place first ≡ b → (b || list_any (eqb place) passed) ≡ false → (list_any (eqb place) passed ≡ false → AllByRecursion (λ y. eqb place y ≡ false) passed) → AllByRecursion (λ y. eqb place y ≡ false) (first ∷ passed)
    by true e h ih = absurd (true≢false h)
    by false e h ih = (e, ih h)

-- the state that the parser comes to was not passed
not_passed : (states : List PlainState) (passed : List ℕ) (name : Name) (place : ℕ) (state : PlainState) → IsLoopFree states → Passed states passed name → slice_get states place ≡ Some state → state.name ≡ name → list_any (eqb place) passed ≡ false
not_passed states passed name place state free h there called = by (list_any (eqb place) passed) refl
  where
    by : (b : Bool) → list_any (eqb place) passed ≡ b → b ≡ false
    by true e = absurd (free.no_loops place (h.lead place place state e there called))
    by false e = refl

with_place : (states : List PlainState) (passed : List ℕ) (name : Name) (place : ℕ) (state : PlainState) → IsLoopFree states → Passed states passed name → slice_get states place ≡ Some state → state.name ≡ name → IsDistinct eqb (place ∷ passed) × AreStates states (place ∷ passed)
unfolding IsDistinct
with_place states passed name place state free h there called = (
  (none_equal place passed (not_passed states passed name place state free h there called), h.apart),
  λ other among_them. by other (or_cases (eqb other place) (list_any (eqb other) passed) among_them),
)
  where
    by : (other : ℕ) → (eqb other place ≡ true) ⊎ (list_any (eqb other) passed ≡ true) → other < length states
    by other (inl e) = subst (λ (n : ℕ). n < length states) (sym (eqb-true other place e)) (slice_get_within states place state there)
    by other (inr e) = h.are_states other e

-- one state more: the next name is one to which it leads
passed_more : (states : List PlainState) (passed : List ℕ) (name next : Name) (place : ℕ) (state : PlainState) → IsLoopFree states → Passed states passed name → slice_get states place ≡ Some state → state.name ≡ name → IsNext (targets_of state.next) next → Passed states (place ∷ passed) next
passed_more states passed name next place state free h there called goes_to =
    let both = with_place states passed name place state free h there called in
    record { apart = both.0; are_states = both.1; lead = λ one other its among_them at its_name. by one other its (or_cases (eqb one place) (list_any (eqb one) passed) among_them) at its_name goes_to }
  where
    step : (other : ℕ) (its : PlainState) → slice_get states other ≡ Some its → its.name ≡ next → among (targets_of state.next) next ≡ true → goes states place other ≡ true
    step other its at its_name h = ap (λ (o : Option PlainState). goes_on o (slice_get states other)) there ∙ ap (goes_on (Some state)) at ∙ ap (among (targets_of state.next)) its_name ∙ h

    by : (one other : ℕ) (its : PlainState) → (eqb one place ≡ true) ⊎ (list_any (eqb one) passed ≡ true) → slice_get states other ≡ Some its → its.name ≡ next → IsNext (targets_of state.next) next → LeadsToState states one other
    by one other its (inl e) at its_name (inl in_targets) = subst (λ (n : ℕ). LeadsToState states n other) (sym (eqb-true one place e)) (direct other (step other its at its_name in_targets))
    by one other its (inr e) at its_name (inl in_targets) = further place other (h.lead one place state e there called) (step other its at its_name in_targets)
    by one other its e at its_name (inr refused) = absurd (true≢false (sym (named_there states other its (codes "reject") at (its_name ∙ refused)) ∙ free.reject))

-- as many turns as states that were not passed are enough
turns_enough : (few most : ℕ) (decls : List PlainDecl) (sizes : List ℕ) (states : List PlainState) (bytes : List ℕ) → IsLoopFree states → few ≤ most → (passed : List ℕ) (name : Name) → Passed states passed name → length passed + few ≡ length states → (parsed : Parsed)
    → parsed_from most decls sizes states bytes name parsed ≡ parsed_from few decls sizes states bytes name parsed
turns_enough zero zero decls sizes states bytes free less passed name h count parsed = refl
turns_enough zero (suc most) decls sizes states bytes free less passed name h count parsed = by (same name (codes "accept"))
  where
    nowhere : (next : PlainState → Option Parsed) (o : Option PlainState) → find (λ (state : PlainState). same name state.name) states ≡ o → option_and_then next o ≡ None
    nowhere next None e = refl
    nowhere next (Some state) e =
        let its = find_tells (λ (state : PlainState). same name state.name) states state e in
        let both = with_place states passed name its.place state free h its.there (sym (same_told name state.name its.passes)) in
        let many = length-le_from_distinct_below (its.place ∷ passed) (length states) both.0 both.1 in
        absurd (omega (arith, many, count))

    by : (b : Bool) → (if b then Some parsed else (option_and_then (λ (state : PlainState). option_and_then (λ (more : Parsed). parsed_from most decls sizes states bytes (next_of (outside decls sizes None) more.memory state.next) more) (all_extracted decls bytes parsed state.extracts)) (find (λ (state : PlainState). same name state.name) states)))
        ≡ (if b then Some parsed else None)
    by true = refl
    by false = nowhere _ (find (λ (state : PlainState). same name state.name) states) refl
turns_enough (suc few) zero decls sizes states bytes free less passed name h count parsed = absurd (omega (arith, less))
turns_enough (suc few) (suc most) decls sizes states bytes free less passed name h count parsed =
    by (same name (codes "accept")) (λ passed next its. turns_enough few most decls sizes states bytes free (omega (arith, less)) passed next its)
  where
    extract : (state : PlainState) (o : Option Parsed) → ((more : Parsed) → parsed_from most decls sizes states bytes (next_of (outside decls sizes None) more.memory state.next) more ≡ parsed_from few decls sizes states bytes (next_of (outside decls sizes None) more.memory state.next) more)
        → option_and_then (λ (more : Parsed). parsed_from most decls sizes states bytes (next_of (outside decls sizes None) more.memory state.next) more) o
        ≡ option_and_then (λ (more : Parsed). parsed_from few decls sizes states bytes (next_of (outside decls sizes None) more.memory state.next) more) o
    extract state None each = refl
    extract state (Some more) each = each more

    go : (o : Option PlainState) → find (λ (state : PlainState). same name state.name) states ≡ o
        → ((passed : List ℕ) (next : Name) → Passed states passed next → length passed + few ≡ length states → (parsed : Parsed) → parsed_from most decls sizes states bytes next parsed ≡ parsed_from few decls sizes states bytes next parsed)
        → option_and_then (λ (state : PlainState). option_and_then (λ (more : Parsed). parsed_from most decls sizes states bytes (next_of (outside decls sizes None) more.memory state.next) more) (all_extracted decls bytes parsed state.extracts)) o
        ≡ option_and_then (λ (state : PlainState). option_and_then (λ (more : Parsed). parsed_from few decls sizes states bytes (next_of (outside decls sizes None) more.memory state.next) more) (all_extracted decls bytes parsed state.extracts)) o
    go None e again = refl
    go (Some state) e again =
        let its = find_tells (λ (state : PlainState). same name state.name) states state e in
        extract state (all_extracted decls bytes parsed state.extracts)
        (λ more. again (its.place ∷ passed) (next_of (outside decls sizes None) more.memory state.next)
        (passed_more states passed name (next_of (outside decls sizes None) more.memory state.next) its.place state free h its.there (sym (same_told name state.name its.passes)) (next_is (outside decls sizes None) more.memory state.next))
        (omega (arith, count)) more)

    by : (b : Bool)
        → ((passed : List ℕ) (next : Name) → Passed states passed next → length passed + few ≡ length states → (parsed : Parsed) → parsed_from most decls sizes states bytes next parsed ≡ parsed_from few decls sizes states bytes next parsed)
        → (if b then Some parsed else (option_and_then (λ (state : PlainState). option_and_then (λ (more : Parsed). parsed_from most decls sizes states bytes (next_of (outside decls sizes None) more.memory state.next) more) (all_extracted decls bytes parsed state.extracts)) (find (λ (state : PlainState). same name state.name) states)))
        ≡ (if b then Some parsed else (option_and_then (λ (state : PlainState). option_and_then (λ (more : Parsed). parsed_from few decls sizes states bytes (next_of (outside decls sizes None) more.memory state.next) more) (all_extracted decls bytes parsed state.extracts)) (find (λ (state : PlainState). same name state.name) states)))
    by true again = refl
    by false again = go (find (λ (state : PlainState). same name state.name) states) refl again

pub ends_in_time : EndsInTime
unfolding IsDistinct
ends_in_time decls sizes states bytes name parsed most free less =
    turns_enough (length states) most decls sizes states bytes free less [] name record { apart = tt; are_states = λ place e. absurd (true≢false (sym e)); lead = λ place other state e at its_name. absurd (true≢false (sym e)) } (omega arith) parsed
