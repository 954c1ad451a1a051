use Rattle.std.proofs.Common.{map, ap, ◌∙◌, slice_get, get_or}
use Rattle.elastic_ast.specs.Seen.{seen_state}
use Rattle.parser_loops.specs.Transitions.{entered, targets_from}
use Rattle.parser_loops.proofs.GraphLaws.{case_is, seen_at}
use Rattle.parser_loops.proofs.graph.Graph.target.Goals as goal

pub returns : goal.returns
returns c =
    let states = c.args.self.now.states.now in
    case_is (map seen_state states) c.args.self.now.numbers.entries c.args.state c.args.case c.target_name-name.result.now c.copied.result c.args.self.now.numbered
    (ap (λ o. slice_get (targets_from o) c.args.case) (seen_at seen_state states c.args.state (get_or states c.args.state c.index-self-state.result) c.requires.state_in (ap (λ x. get_or states c.args.state x) c.index-self-state.is))
    ∙ c.target_name-name.ensures) (c.copied.ensures ∙ c.get.ensures.value ∙ ap (entered c.args.self.now.numbers.entries) c.as_slice.ensures)
