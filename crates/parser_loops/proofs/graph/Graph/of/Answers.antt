use Rattle.std.proofs.Common.{◌≤◌, ℕ, List, length, map, Some, sym, ap, ◌∙◌, arith, Bor}
use Rattle.std.proofs.lemmas.List.{length-map}
use Rattle.elastic_ast.specs.Seen.{seen_state}
use Rattle.elastic_ast.specs.Typing.ParserLoops.{state_names}
use Rattle.parser_loops.proofs.GraphLaws.{all_numbered, name_at, numbered_step}
use Rattle.parser_loops.proofs.graph.Graph.of.Goals as goal

pub loop-number-preserved : goal.loop-number-preserved
loop-number-preserved c =
    numbered_step (state_names (map seen_state c.args.states.now)) c.loop-number.number c.as_slice.result.now c.loop-number.numbers.entries c.insert.new.self.entries c.requires
    (name_at c.args.states.now c.loop-number.number c.index-states-number.result c.loop-number-test.true c.index-states-number.is ∙ ap Some (sym c.as_slice.ensures))
    (λ name. let key : Bor (List ℕ) = record { ref_ptr = (0, 0); now = name } in c.in_ok-insert.ensures.updates.0 key) c.loop-number.invariant

pub invariant_of-result : goal.invariant_of-result
invariant_of-result c =
    let whole : length (map seen_state c.args.states.now) ≤ c.loop-number.number = omega (arith, length-map c.args.states.now seen_state, c.loop-number-test.false) in
    record { numbered = all_numbered (map seen_state c.args.states.now) c.loop-number.number c.loop-number.numbers.entries whole c.loop-number.invariant }
