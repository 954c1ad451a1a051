use Rattle.elastic_ast.specs.Typing.AskedInLocals.{asks_key}
use Rattle.expr_types.specs.Scoped.{before_of}
use Rattle.stmt_check.proofs.Steps.{stops, goes_on}
use Rattle.decl_check.proofs.match_tables.check_keys.Goals as goal

pub returns-in-Some : goal.returns-in-Some
returns-in-Some c =
    stops c.args.allow_reserved (asks_key (before_of c.args.scope.now)) c.args.keys.now c.loop-key.key-index c.key-item.result c.in-Some.rule _
    c.loop-key-test.true c.key-item.is c.in-Some.ensures c.loop-key.invariant

pub loop-key-preserved : goal.loop-key-preserved
loop-key-preserved c =
    goes_on c.args.allow_reserved (asks_key (before_of c.args.scope.now)) c.args.keys.now c.loop-key.key-index c.key-item.result _
    c.loop-key-test.true c.key-item.is c.in-None.ensures c.loop-key.invariant
