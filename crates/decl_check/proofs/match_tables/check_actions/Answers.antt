use Rattle.elastic_ast.specs.Typing.AskedInLocals.{asks_listed}
use Rattle.program_names.specs.LocalParts.{seen_locals}
use Rattle.stmt_check.proofs.Steps.{stops, goes_on}
use Rattle.decl_check.proofs.match_tables.check_actions.Goals as goal

pub returns-in-Some : goal.returns-in-Some
returns-in-Some c =
    stops c.args.allow_reserved (asks_listed (seen_locals c.args.locals.now)) c.args.names.now c.loop-name.name-index c.name-item.result c.in-Some.rule _
    c.loop-name-test.true c.name-item.is c.in-Some.ensures c.loop-name.invariant

pub loop-name-preserved : goal.loop-name-preserved
loop-name-preserved c =
    goes_on c.args.allow_reserved (asks_listed (seen_locals c.args.locals.now)) c.args.names.now c.loop-name.name-index c.name-item.result _
    c.loop-name-test.true c.name-item.is c.in-None.ensures c.loop-name.invariant
