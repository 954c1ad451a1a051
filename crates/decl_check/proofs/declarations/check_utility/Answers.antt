use Rattle.elastic_ast.specs.Typing.Asked.{asks_util}
use Rattle.expr_types.specs.Scoped.{before_of}
use Rattle.stmt_check.proofs.Steps.{stops, goes_on}
use Rattle.decl_check.proofs.declarations.check_utility.Goals as goal

pub returns-in-Some : goal.returns-in-Some
returns-in-Some c = stops c.args.allow_reserved (asks_util (before_of c.args.scope.now)) c.args.terms.now c.loop-term.term-index c.term-item.result c.in-Some.rule _ c.loop-term-test.true c.term-item.is c.in-Some.ensures c.loop-term.invariant

pub loop-term-preserved : goal.loop-term-preserved
loop-term-preserved c = goes_on c.args.allow_reserved (asks_util (before_of c.args.scope.now)) c.args.terms.now c.loop-term.term-index c.term-item.result _ c.loop-term-test.true c.term-item.is c.in-None.ensures c.loop-term.invariant
