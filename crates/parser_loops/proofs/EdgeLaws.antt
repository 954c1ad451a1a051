-- Cases of states as transitions, and what lies on a way.
use Rattle.std.proofs.Common.{◌≡◌, ℕ, ◌<◌, true, List, length, Option, Some, None, refl, sym, ap, ◌∙◌, true≢false, arith}
use Rattle.std.specs.Prelude.{slice_get}
use Rattle.std.specs.Option.{option_map}
use Rattle.std.proofs.lemmas.List.{length-map}
use Rattle.std.proofs.lemmas.Option.{slice_get-map, slice_get_within}
use Rattle.elastic_ast.specs.Tree.{PlainState}
use Rattle.elastic_ast.specs.Typing.ParserLoops.{state_name, state_names, targets_of, goes_on, goes, LeadsToState, direct, further}
use Rattle.elastic_ast.specs.Typing.Scope.{among}
use Rattle.parser_loops.specs.Transitions.{IsCase, targets_at, targets_from}
use Rattle.parser_loops.proofs.GraphLaws.{placed, there}

-- two states, the one of which goes on to the other
pub record Ends (states : List PlainState) (one other : ℕ) : Type 0 where
  pub first : PlainState
  pub last : PlainState
  pub first_at : slice_get states one ≡ Some first
  pub last_at : slice_get states other ≡ Some last
  pub goes_to : among (targets_of first.next) last.name ≡ true

pub ends : (states : List PlainState) (one other : ℕ) → goes states one other ≡ true → Ends states one other
ends states one other h = by (slice_get states one) (slice_get states other) refl refl h
  where
    by : (o p : Option PlainState) → slice_get states one ≡ o → slice_get states other ≡ p → goes_on o p ≡ true → Ends states one other
    by (Some a) (Some b) e f h = record { first = a; last = b; first_at = e; last_at = f; goes_to = h }
    by (Some a) None e f h = absurd (true≢false (sym h))
    by None (Some b) e f h = absurd (true≢false (sym h))
    by None None e f h = absurd (true≢false (sym h))

-- a transition is one of the cases
pub goes_case : (states : List PlainState) (one other : ℕ) → goes states one other ≡ true → (case : ℕ) × IsCase states one case other
goes_case states one other h =
    let e = ends states one other h in
    let p = placed (targets_of e.first.next) e.last.name e.goes_to in
    (p.0, (e.last.name, ap (λ o. slice_get (targets_from o) p.0) e.first_at ∙ p.1, slice_get-map state_name states other ∙ ap (option_map state_name) e.last_at))

-- and each case a transition
pub case_goes : (states : List PlainState) (one case other : ℕ) → IsCase states one case other → goes states one other ≡ true
case_goes states one case other k = by (slice_get states one) (slice_get states other) refl refl
  where
    named : slice_get (targets_from (slice_get states one)) case ≡ Some k.0
    named = k.1

    called : option_map state_name (slice_get states other) ≡ Some k.0
    called = sym (slice_get-map state_name states other) ∙ k.2

    by : (o p : Option PlainState) → slice_get states one ≡ o → slice_get states other ≡ p → goes states one other ≡ true
    by (Some a) (Some b) e f =
        let m : Some b.name ≡ Some k.0 = ap (option_map state_name) (sym f) ∙ called in
        let s : k.0 ≡ b.name = cc in
        let t : slice_get (targets_of a.next) case ≡ Some b.name = ap (λ o. slice_get (targets_from o) case) (sym e) ∙ named ∙ ap Some s in
        ap (λ o. goes_on o (slice_get states other)) e ∙ ap (goes_on (Some a)) f ∙ there (targets_of a.next) case b.name t
    by (Some a) None e f = let m : None ≡ Some k.0 = ap (option_map state_name) (sym f) ∙ called in cc
    by None (Some b) e f = let m : None ≡ Some k.0 = ap (λ o. slice_get (targets_from o) case) (sym e) ∙ named in cc
    by None None e f = let m : None ≡ Some k.0 = ap (λ o. slice_get (targets_from o) case) (sym e) ∙ named in cc

pub case_within : (states : List PlainState) (one case other : ℕ) → IsCase states one case other → other < length states
case_within states one case other k =
    let h : other < length (state_names states) = slice_get_within (state_names states) other k.0 k.2 in
    let long : length (state_names states) ≡ length states = length-map states state_name in
    omega arith

pub case_counted : (states : List PlainState) (one case other : ℕ) → IsCase states one case other → case < length (targets_at states one)
case_counted states one case other k = slice_get_within (targets_at states one) case k.0 k.1

-- a way begins at a state
pub leads_within : (states : List PlainState) (one other : ℕ) → LeadsToState states one other → one < length states
leads_within states one _ (direct other h) = let e = ends states one other h in slice_get_within states one e.first e.first_at
leads_within states one _ (further middle other way h) = leads_within states one middle way

-- what transitions keep, and holds after the first, holds along a way
pub along : (states : List PlainState) (Holds : ℕ → Type 0) → ((one other : ℕ) → Holds one → goes states one other ≡ true → Holds other) → (one other : ℕ) → ((middle : ℕ) → goes states one middle ≡ true → Holds middle)
    → LeadsToState states one other → Holds other
along states Holds keeps one _ first (direct other h) = first other h
along states Holds keeps one _ first (further middle other way h) = keeps middle other (along states Holds keeps one middle first way) h
