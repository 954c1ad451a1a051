use Rattle.std.proofs.Common.{◌≡◌, ◌<◌, inl, inr, length, Some, refl, ap, subst, ◌∙◌, arith}
use Rattle.std.proofs.lemmas.Bool.{cases_lt}
use Rattle.std.proofs.lemmas.List.{length-map}
use Rattle.elastic_ast.specs.Seen.{seen_state}
use Rattle.parser_loops.specs.Shown.{states_of}
use Rattle.parser_loops.specs.Transitions.{IsCase}
use Rattle.parser_loops.specs.Searching.{mark_of}
use Rattle.parser_loops.proofs.EdgeLaws.{case_within}
use Rattle.parser_loops.proofs.StepLaws.{told_done, told_undone}
use Rattle.parser_loops.proofs.search.next_edge.Goals as goal
use Rattle.parser_loops.proofs.search.next_edge.Goals.{in-Some+else-ne, in_default}

pub bounds-marks-other : goal.bounds-marks-other
bounds-marks-other c =
    let h : c.in-Some.other < length (states_of c.args.graph.now) = case_within (states_of c.args.graph.now) c.args.state c.loop-case.case c.in-Some.other ((c.in-Some.ensures c.in-Some.other).0 refl) in
    omega (arith, length-map c.args.graph.now.states.now seen_state, c.requires.marked)

pub returns-then-ne : goal.returns-then-ne
returns-then-ne c = record {
  goes_on = (c.in-Some.ensures c.in-Some.other).0 refl;
  undone = told_undone (mark_of c.args.marks.now c.in-Some.other) c.if-ne.ensures;
  passed = c.loop-case.invariant;
}

pub loop-case-preserved : goal.loop-case-preserved
loop-case-preserved c case other above below k =
    elim (cases_lt case c.loop-case.case) [
      | inl before ↦ c.loop-case.invariant case other above before k
      | inr after ↦ (
          let e : case ≡ c.loop-case.case = omega arith in
          let here : IsCase (states_of c.args.graph.now) c.args.state c.loop-case.case other = subst (λ n. IsCase (states_of c.args.graph.now) c.args.state n other) e k in
          elim c.match-target.branch [
            | in-Some+else-ne w ↦ (
                let f : Some w.in-Some.other ≡ Some other = (w.in-Some.ensures other).1 here in
                let s : other ≡ w.in-Some.other = cc in
                ap (mark_of c.args.marks.now) s ∙ told_done (mark_of c.args.marks.now w.in-Some.other) w.if-ne.ensures
                )
            | in_default w ↦ absurd (w.in_default.not-Some other ((c.target.ensures other).1 here))
          ]
          )
    ]

pub returns : goal.returns
returns c case other above below k = c.loop-case.invariant case other above (omega (arith, c.loop-case-test.false, c.case_count-case-end.ensures)) k
