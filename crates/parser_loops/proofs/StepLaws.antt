-- What a step of the search leaves.
use Rattle.std.proofs.Common.{◌≡◌, ℕ, ◌+◌, ◌<◌, ◌≤◌, true, false, not, List, [], ◌∷◌, ◌++◌, length, get_or, set, refl, sym, ap, subst, ◌∙◌, true≢false, length-append, arith}
use Rattle.std.specs.Prelude.{count_by}
use Rattle.std.proofs.Math.Seq.{get_or-append_seam}
use denote.Enum.Bare.{sameb}
use Rattle.elastic_ast.specs.Tree.{PlainState}
use Rattle.elastic_ast.specs.Typing.ParserLoops.{LeadsToState}
use Rattle.parser_loops.specs.contracts.search.Mark.{the_type}
use Rattle.parser_loops.specs.declared.search.Edge.{Edge}
use Rattle.parser_loops.specs.declared.search.Mark.{Mark}
use Rattle.parser_loops.specs.declared.search.Mark.TheVariants.{New, Open, Done}
use Rattle.parser_loops.specs.declared.search.Search.{Search}
use Rattle.parser_loops.specs.Transitions.{targets_at}
use Rattle.parser_loops.specs.Searching.{SearchFacts, HasFacts, HasFactsWith, IsNextEdge, PassedUpTo, Stepped, Entered, KeepsMarks, mark_of, is_new}
use Rattle.parser_loops.proofs.EdgeLaws.{case_goes, case_within}
use Rattle.parser_loops.proofs.SearchLaws.{advanced, entered, finished, path_leads, set_here, no_more_work, less_work, never_new}

-- what the tests of marks tell
pub told_open : (mark : Mark) → true ≡ sameb the_type mark Open → mark ≡ Open
told_open New h = absurd (true≢false h)
told_open Open h = refl
told_open Done h = absurd (true≢false h)

pub told_done : (mark : Mark) → false ≡ not (sameb the_type mark Done) → mark ≡ Done
told_done New h = absurd (true≢false (sym h))
told_done Open h = absurd (true≢false (sym h))
told_done Done h = refl

pub told_undone : (mark : Mark) → true ≡ not (sameb the_type mark Done) → mark ≡ Done → ⊥
told_undone New h e = cc
told_undone Open h e = cc
told_undone Done h e = true≢false h

pub told_other : (mark : Mark) → false ≡ sameb the_type mark Open → (mark ≡ Done → ⊥) → mark ≡ New
told_other New h undone = refl
told_other Open h undone = absurd (true≢false (sym h))
told_other Done h undone = absurd (undone refl)

pub only_new : (mark : Mark) → is_new mark ≡ true → mark ≡ New
only_new New h = refl
only_new Open h = absurd (true≢false (sym h))
only_new Done h = absurd (true≢false (sym h))

-- the state that was taken from the path is one of the states
pub taken_within : (states : List PlainState) (search : Search) (state : ℕ) → HasFactsWith states search state → state < length states
taken_within states search state before =
    let long : length (search.path.items ++ state ∷ []) ≡ length search.path.items + 1 = length-append search.path.items (state ∷ []) in
    let within : get_or (search.path.items ++ state ∷ []) (length search.path.items) 0 < length states = before.within (length search.path.items) (omega arith) in
    let e : get_or (search.path.items ++ state ∷ []) (length search.path.items) 0 ≡ state = get_or-append_seam search.path.items state [] 0 in
    omega arith

-- what holds once a state has been entered
pub record Begun (states : List PlainState) (old new : Search) (state : ℕ) : Type 0 where
  pub searched : HasFacts states new
  pub kept : KeepsMarks old new
  pub known : is_new (mark_of new.marks.items state) ≡ false

-- a step to a new state
pub went_on : (states : List PlainState) (old new : Search) (state : ℕ) (edge : Edge) → HasFactsWith states old state → IsNextEdge states old.marks.items state (get_or old.passed.items state 0) edge
    → mark_of old.marks.items edge.target ≡ New → new.marks.items ≡ set old.marks.items edge.target Open → new.passed.items ≡ set old.passed.items state edge.case
    → new.path.items ≡ (old.path.items ++ state ∷ []) ++ edge.target ∷ [] → Stepped states old new
went_on states old new state edge before next is_new_mark marks passed path = record {
  searched = subst (λ m. SearchFacts states m new.passed.items new.path.items) (sym marks)
      (subst (λ p. SearchFacts states (set old.marks.items edge.target Open) p new.path.items) (sym passed)
      (subst (λ p. SearchFacts states (set old.marks.items edge.target Open) (set old.passed.items state edge.case) p) (sym path) all));
  kept = λ other known. ap (λ m. is_new (mark_of m other)) marks ∙ never_new old.marks.items edge.target other Open inside refl known;
  smaller =
      let work : count_by is_new new.marks.items + 1 ≡ count_by is_new old.marks.items = ap (λ m. count_by is_new m + 1) marks ∙ less_work old.marks.items edge.target inside is_new_mark in
      let long : length new.path.items ≡ length old.path.items + 1 + 1 = ap length path ∙ length-append (old.path.items ++ state ∷ []) (edge.target ∷ []) ∙ ap (λ n. n + 1) (length-append old.path.items (state ∷ [])) in
      omega arith;
}
  where
    target_in : edge.target < length states
    target_in = case_within states state edge.case edge.target next.goes_on

    inside : edge.target < length old.marks.items
    inside = let e = before.marked in omega (arith, target_in)

    more : SearchFacts states old.marks.items (set old.passed.items state edge.case) (old.path.items ++ state ∷ [])
    more = advanced states old.marks.items old.passed.items (old.path.items ++ state ∷ []) state edge.case before (taken_within states old state before) next.passed

    all : SearchFacts states (set old.marks.items edge.target Open) (set old.passed.items state edge.case) ((old.path.items ++ state ∷ []) ++ edge.target ∷ [])
    all =
        entered states old.marks.items (set old.passed.items state edge.case) (old.path.items ++ state ∷ []) edge.target more target_in is_new_mark
        (path_leads states old.marks.items old.passed.items old.path.items state edge.target before (case_goes states state edge.case edge.target next.goes_on))

-- a step back
pub went_back : (states : List PlainState) (old new : Search) (state : ℕ) → HasFactsWith states old state → PassedUpTo states old.marks.items state (get_or old.passed.items state 0) (length (targets_at states state))
    → new.marks.items ≡ set old.marks.items state Done → new.passed.items ≡ old.passed.items → new.path.items ≡ old.path.items → Stepped states old new
went_back states old new state before rest marks passed path = record {
  searched = subst (λ m. SearchFacts states m new.passed.items new.path.items) (sym marks)
      (subst (λ p. SearchFacts states (set old.marks.items state Done) p new.path.items) (sym passed)
      (subst (λ p. SearchFacts states (set old.marks.items state Done) old.passed.items p) (sym path) (finished states old.marks.items old.passed.items old.path.items state before rest)));
  kept = λ other known. ap (λ m. is_new (mark_of m other)) marks ∙ never_new old.marks.items state other Done inside refl known;
  smaller =
      let work : count_by is_new new.marks.items ≤ count_by is_new old.marks.items = subst (λ m. count_by is_new m ≤ count_by is_new old.marks.items) (sym marks) (no_more_work old.marks.items state inside) in
      let long : length new.path.items ≡ length old.path.items = ap length path in
      omega arith;
}
  where
    inside : state < length old.marks.items
    inside = let e = before.marked in omega (arith, taken_within states old state before)

-- a search begins at a new state
pub begun : (states : List PlainState) (old new : Search) (state : ℕ) → HasFacts states old → old.path.items ≡ [] → state < length states → is_new (mark_of old.marks.items state) ≡ true → Entered old new state → Begun states old new state
begun states old new state before ended inside is_new_mark enters = record {
  searched = subst (λ m. SearchFacts states m new.passed.items new.path.items) (sym enters.marks)
      (subst (λ p. SearchFacts states (set old.marks.items state Open) p new.path.items) (sym enters.passed)
      (subst (λ p. SearchFacts states (set old.marks.items state Open) old.passed.items p) (sym enters.path)
      (entered states old.marks.items old.passed.items old.path.items state before inside (only_new (mark_of old.marks.items state) is_new_mark) none_before)));
  kept = λ other known. ap (λ m. is_new (mark_of m other)) enters.marks ∙ never_new old.marks.items state other Open inside_marks refl known;
  known = ap (λ m. is_new (mark_of m state)) enters.marks ∙ ap is_new (set_here old.marks.items state Open inside_marks);
}
  where
    inside_marks : state < length old.marks.items
    inside_marks = let e = before.marked in omega arith

    none_before : (place : ℕ) → place < length old.path.items → LeadsToState states (get_or old.path.items place 0) state
    none_before place h = let e : length old.path.items ≡ 0 = ap length ended in absurd (omega arith)
