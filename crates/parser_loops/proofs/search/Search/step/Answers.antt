use Rattle.std.proofs.Common.{◌≡◌, ℕ, ◌<◌, ◌++◌, ◌∷◌, [], List, length, get_or, refl, sym, ap, subst, ◌∙◌, arith}
use Rattle.std.proofs.lemmas.List.{get_or_default}
use Rattle.elastic_ast.specs.Tree.{PlainState}
use Rattle.parser_loops.specs.declared.search.Edge.{Edge}
use Rattle.parser_loops.specs.declared.search.Mark.{Mark}
use Rattle.parser_loops.specs.declared.search.Mark.TheVariants.{New, Done}
use Rattle.parser_loops.specs.declared.search.Search.{Search}
use Rattle.std.specs.Vec.{with_item}
use Rattle.parser_loops.specs.Searching.{IsNextEdge, PassedUpTo, mark_of}
use Rattle.parser_loops.specs.Shown.{states_of}
use Rattle.parser_loops.specs.Transitions.{targets_at}
use Rattle.parser_loops.proofs.EdgeLaws.{case_goes, case_within}
use Rattle.parser_loops.proofs.SearchLaws.{met}
use Rattle.parser_loops.proofs.StepLaws.{taken_within, told_open, told_other, went_back, went_on}
use Rattle.parser_loops.proofs.search.Search.step.Goals as goal

-- what was read of the marks and of the cases that were passed
read_edge : (states : List PlainState) (read marks : List Mark) (passed : List ℕ) (state from : ℕ) (edge : Edge) → read ≡ marks → state < length passed → from ≡ get_or passed state from → IsNextEdge states read state from edge
    → IsNextEdge states marks state (get_or passed state 0) edge
read_edge states read marks passed state from edge same within e next = subst (λ n. IsNextEdge states marks state n edge) (e ∙ get_or_default passed state from 0 within) (subst (λ m. IsNextEdge states m state from edge) same next)

read_end : (states : List PlainState) (read marks : List Mark) (passed : List ℕ) (state from end : ℕ) → read ≡ marks → state < length passed → from ≡ get_or passed state from → PassedUpTo states read state from end
    → PassedUpTo states marks state (get_or passed state 0) end
read_end states read marks passed state from end same within e rest = subst (λ n. PassedUpTo states marks state n end) (e ∙ get_or_default passed state from 0 within) (subst (λ m. PassedUpTo states m state from end) same rest)

pub returns-then-eq : goal.returns-then-eq
returns-then-eq c =
    let states = states_of c.args.graph.now in
    let search = c.args.self.now in
    let edge = c.in-Some.next in
    let h = case_within states c.args.state edge.case edge.target c.in-Some.ensures.goes_on in
    let inside : edge.target < length search.marks.items = omega (arith, c.requires.marked, h) in
    met states search.marks.items search.passed.items search.path.items c.args.state edge.target c.requires (case_goes states c.args.state edge.case edge.target c.in-Some.ensures.goes_on)
    (get_or_default search.marks.items edge.target New c.index-in-Some.result.now inside ∙ sym c.index-in-Some.ensures ∙ told_open c.index-in-Some.result.now c.if-eq.ensures)

pub enter-requires : goal.enter-requires
enter-requires c = let h = case_within (states_of c.args.graph.now) c.args.state c.in-Some.next.case c.in-Some.next.target c.in-Some.ensures.goes_on in omega (arith, c.requires.marked, h)

pub returns-in_ok-enter-in-Some : goal.returns-in_ok-enter-in-Some
returns-in_ok-enter-in-Some c =
    let states = states_of c.args.graph.now in
    let search = c.args.self.now in
    let edge = c.in-Some.next in
    let h = case_within states c.args.state edge.case edge.target c.in-Some.ensures.goes_on in
    let inside : edge.target < length search.marks.items = omega (arith, c.requires.marked, h) in
    let known = taken_within states search c.args.state c.requires in
    let counted : c.args.state < length search.passed.items = omega (arith, c.requires.counted, known) in
    let next = read_edge states c.as_slice.result.now search.marks.items search.passed.items c.args.state c.index.result.now edge c.as_slice.ensures.value counted c.index.ensures c.in-Some.ensures in
    let read : mark_of search.marks.items edge.target ≡ c.index-in-Some.result.now = get_or_default search.marks.items edge.target New c.index-in-Some.result.now inside ∙ sym c.index-in-Some.ensures in
    let new : mark_of search.marks.items edge.target ≡ New = read ∙ told_other c.index-in-Some.result.now c.if-eq.ensures (λ d. next.undone (read ∙ d)) in
    went_on states search c.enter.new.self c.args.state edge c.requires next new c.in_ok-enter-in-Some.ensures.marks c.in_ok-enter-in-Some.ensures.passed
    (c.in_ok-enter-in-Some.ensures.path ∙ ap (λ p. p ++ edge.target ∷ []) c.in_ok-push-in-Some.ensures.items)

pub returns-in-None : goal.returns-in-None
returns-in-None c =
    let states = states_of c.args.graph.now in
    let search : Search = c.args.self.now in
    let known = taken_within states search c.args.state c.requires in
    let counted : c.args.state < length search.passed.items = omega (arith, c.requires.counted, known) in
    let end = length (targets_at states c.args.state) in
    let new : Search = record { marks = with_item search.marks c.args.state Done; passed = search.passed; path = search.path } in
    went_back states search new c.args.state c.requires (read_end states c.as_slice.result.now search.marks.items search.passed.items c.args.state c.index.result.now end c.as_slice.ensures.value counted c.index.ensures c.in-None.ensures)
    refl refl refl
