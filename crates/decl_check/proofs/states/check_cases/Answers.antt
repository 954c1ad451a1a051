use Rattle.elastic_ast.specs.Seen.{seen_case}
use Rattle.elastic_ast.specs.Typing.Asked.{asks_case}
use Rattle.expr_types.specs.Scoped.{before_of}
use Rattle.expr_types.specs.Placed.{seen_type}
use Rattle.program_names.specs.LocalParts.{seen_states}
use Rattle.stmt_check.proofs.Steps.{seen_stops, seen_goes_on}
use Rattle.decl_check.proofs.states.check_cases.Goals as goal

pub returns-in-Some : goal.returns-in-Some
returns-in-Some c =
    seen_stops c.args.allow_reserved seen_case (asks_case (before_of c.args.scope.now) (seen_states c.args.states.now) (seen_type c.args.width)) c.args.cases.now c.loop-case.case-index c.case-item.result c.in-Some.rule _
    c.loop-case-test.true c.case-item.is c.in-Some.ensures c.loop-case.invariant

pub loop-case-preserved : goal.loop-case-preserved
loop-case-preserved c =
    seen_goes_on c.args.allow_reserved seen_case (asks_case (before_of c.args.scope.now) (seen_states c.args.states.now) (seen_type c.args.width)) c.args.cases.now c.loop-case.case-index c.case-item.result _
    c.loop-case-test.true c.case-item.is c.in-None.ensures c.loop-case.invariant
