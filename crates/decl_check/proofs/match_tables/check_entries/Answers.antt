use Rattle.elastic_ast.specs.Seen.{seen_entry, seen_table}
use Rattle.elastic_ast.specs.Typing.AskedInLocals.{asks_entry}
use Rattle.expr_types.specs.Scoped.{before_of}
use Rattle.program_names.specs.LocalParts.{seen_locals}
use Rattle.stmt_check.proofs.Steps.{seen_stops, seen_goes_on}
use Rattle.decl_check.proofs.match_tables.check_entries.Goals as goal

pub returns-in-Some : goal.returns-in-Some
returns-in-Some c =
    seen_stops c.args.allow_reserved seen_entry (asks_entry (before_of c.args.scope.now) (seen_locals c.args.locals.now) (seen_table c.args.table.now)) c.args.entries.now c.loop-entry.entry-index c.entry-item.result c.in-Some.rule _
    c.loop-entry-test.true c.entry-item.is c.in-Some.ensures c.loop-entry.invariant

pub loop-entry-preserved : goal.loop-entry-preserved
loop-entry-preserved c =
    seen_goes_on c.args.allow_reserved seen_entry (asks_entry (before_of c.args.scope.now) (seen_locals c.args.locals.now) (seen_table c.args.table.now)) c.args.entries.now c.loop-entry.entry-index c.entry-item.result _
    c.loop-entry-test.true c.entry-item.is c.in-None.ensures c.loop-entry.invariant
