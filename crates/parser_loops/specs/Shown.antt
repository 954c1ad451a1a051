-- The states that a graph shows; this project's own.
use Rattle.std.specs.Prelude.{List, map}
use Rattle.elastic_ast.specs.Tree.{PlainState}
use Rattle.elastic_ast.specs.Seen.{seen_state}
use Rattle.parser_loops.specs.declared.graph.Graph.{Graph}

abbrev pub states_of : Graph → List PlainState
states_of graph = map seen_state graph.states.now
