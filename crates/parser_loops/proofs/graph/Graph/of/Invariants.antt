use Rattle.std.proofs.Common.{map}
use Rattle.elastic_ast.specs.Seen.{seen_state}
use Rattle.elastic_ast.specs.Typing.ParserLoops.{state_names}
use Rattle.parser_loops.proofs.GraphLaws.{Numbered}
use Rattle.parser_loops.proofs.graph.Graph.of.Given as goal

abbrev pub invariant-loop-number : goal.invariant-loop-number
invariant-loop-number l = Numbered (state_names (map seen_state l.states)) l.number l.numbers.entries
