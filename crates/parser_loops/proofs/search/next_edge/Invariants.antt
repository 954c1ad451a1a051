use Rattle.parser_loops.specs.Shown.{states_of}
use Rattle.parser_loops.specs.Searching.{PassedUpTo}
use Rattle.parser_loops.proofs.search.next_edge.Given as goal

abbrev pub invariant-loop-case : goal.invariant-loop-case
invariant-loop-case l = PassedUpTo (states_of l.graph) l.marks l.state l.from l.case
