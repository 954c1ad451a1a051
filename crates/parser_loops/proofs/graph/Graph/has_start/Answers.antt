use Rattle.std.proofs.Common.{map, ap, ◌∙◌}
use Rattle.elastic_ast.specs.Seen.{seen_state}
use Rattle.elastic_ast.specs.Typing.ParserLoops.{state_names}
use Rattle.elastic_ast.specs.Typing.Scope.{among}
use Rattle.parser_loops.proofs.GraphLaws.{known_name}
use Rattle.parser_loops.proofs.graph.Graph.has_start.Goals as goal

pub returns : goal.returns
returns c =
    c.contains_key.ensures ∙ known_name (map seen_state c.args.self.now.states.now) c.args.self.now.numbers.entries c.as_slice.result.now c.args.self.now.numbered
    ∙ ap (among (state_names (map seen_state c.args.self.now.states.now))) c.as_slice.ensures
