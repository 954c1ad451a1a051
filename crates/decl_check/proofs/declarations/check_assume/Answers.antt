use Rattle.elastic_ast.specs.Typing.Asked.{asks_comp}
use Rattle.expr_types.specs.Scoped.{before_of}
use Rattle.stmt_check.proofs.Steps.{stops, goes_on}
use Rattle.decl_check.proofs.declarations.check_assume.Goals as goal

pub returns-in-Some : goal.returns-in-Some
returns-in-Some c = stops c.args.allow_reserved (asks_comp (before_of c.args.scope.now)) c.args.comps.now c.loop-comp.comp-index c.comp-item.result c.in-Some.rule _ c.loop-comp-test.true c.comp-item.is c.in-Some.ensures c.loop-comp.invariant

pub loop-comp-preserved : goal.loop-comp-preserved
loop-comp-preserved c = goes_on c.args.allow_reserved (asks_comp (before_of c.args.scope.now)) c.args.comps.now c.loop-comp.comp-index c.comp-item.result _ c.loop-comp-test.true c.comp-item.is c.in-None.ensures c.loop-comp.invariant
