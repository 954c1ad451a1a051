use Rattle.elastic_ast.specs.Seen.{seen_state}
use Rattle.elastic_ast.specs.Typing.Asked.{asks_state}
use Rattle.expr_types.specs.Scoped.{before_of}
use Rattle.program_names.specs.LocalParts.{seen_states}
use Rattle.stmt_check.proofs.Steps.{seen_stops, seen_goes_on}
use Rattle.decl_check.proofs.states.check_states.Goals as goal

pub returns-in-Some : goal.returns-in-Some
returns-in-Some c =
    seen_stops c.args.allow_reserved seen_state (asks_state (before_of c.args.scope.now) (seen_states c.args.states.now)) c.args.each.now c.loop-state.state-index c.state-item.result c.in-Some.rule _
    c.loop-state-test.true c.state-item.is c.in-Some.ensures c.loop-state.invariant

pub loop-state-preserved : goal.loop-state-preserved
loop-state-preserved c =
    seen_goes_on c.args.allow_reserved seen_state (asks_state (before_of c.args.scope.now) (seen_states c.args.states.now)) c.args.each.now c.loop-state.state-index c.state-item.result _
    c.loop-state-test.true c.state-item.is c.in-None.ensures c.loop-state.invariant
