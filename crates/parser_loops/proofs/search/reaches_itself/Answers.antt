use Rattle.std.proofs.Common.{◌≤◌, length, true≢false, sym, subst, arith}
use Rattle.std.proofs.lemmas.List.{length-map}
use Rattle.elastic_ast.specs.Seen.{seen_state}
use Rattle.parser_loops.specs.Shown.{states_of}
use Rattle.parser_loops.specs.Searching.{SearchFacts}
use Rattle.parser_loops.proofs.SearchLaws.{none_loops}
use Rattle.parser_loops.proofs.search.reaches_itself.Goals as goal

pub returns : goal.returns
returns c =
    let states = states_of c.args.graph.now in
    let search = c.loop-root.search in
    let whole : length states ≤ c.loop-root.root = omega (arith, length-map c.args.graph.now.states.now seen_state, c.loop-root-test.false, c.len-root-end.ensures) in (
      λ h. absurd (true≢false (sym h)),
      λ loop. absurd (none_loops states search.marks.items search.passed.items (subst (λ p. SearchFacts states search.marks.items search.passed.items p) c.loop-root.invariant.ended c.loop-root.invariant.searched)
          (λ state within. c.loop-root.invariant.known state (omega arith)) loop),
    )
