use Rattle.std.proofs.Common.{◌≡◌, ◌++◌, drop}
use Rattle.elastic_ast.specs.Typing.Demand.{first_broken}
use Rattle.elastic_ast.specs.Typing.AskedOfNames.{asks_names}
use Rattle.elastic_ast.specs.Typing.ParserLoops.{state_names}
use Rattle.program_names.specs.LocalParts.{seen_states}
use Rattle.decl_check.specs.NamedParts.{names_break}
use Rattle.decl_check.proofs.named_parts.state_names.Given as goal

abbrev pub invariant-loop-state : goal.invariant-loop-state
invariant-loop-state l =
    (l.names ++ state_names (seen_states (drop l.state-index l.states)) ≡ state_names (seen_states l.states))
    × (first_broken l.allow_reserved (asks_names l.names (state_names (seen_states (drop l.state-index l.states)))) ≡ names_break l.allow_reserved (state_names (seen_states l.states)))
