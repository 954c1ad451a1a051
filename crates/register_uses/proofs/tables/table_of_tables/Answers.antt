use Rattle.std.proofs.Common.{map, ap, subst}
use Rattle.std.specs.Prelude.{option_map}
use Rattle.std.proofs.lemmas.List.{at_drop_all}
use Rattle.elastic_ast.specs.Seen.{seen_local}
use Rattle.elastic_ast.specs.Typing.Scope.{or_else, found}
use Rattle.program_names.specs.FirstNamed.{entry_value, HasFirst}
use Rattle.register_uses.specs.LocalTables.{seen_locals, table_shown, table_given}
use Rattle.program_names.proofs.FirstLaws.{first_step, first_all}
use Rattle.register_uses.proofs.tables.table_of_tables.Goals as goal

pub loop-local-init : goal.loop-local-init
loop-local-init c name = ap (λ z. or_else (option_map table_shown (entry_value z name)) (found (table_given c.args.actions.now name) (map seen_local c.args.locals.now))) c.new-tables.ensures.empty

pub loop-local-preserved : goal.loop-local-preserved
loop-local-preserved c name =
    first_step table_shown (table_given c.args.actions.now) seen_local c.args.locals.now c.loop-local.local-index c.local-item.result c.loop-local.tables.entries c.enter_table.new.known.entries name
    (found (table_given c.args.actions.now name) (map seen_local c.args.locals.now)) c.loop-local-test.true c.local-item.is (λ n. c.in_ok-enter_table.ensures n) (c.loop-local.invariant name)

pub returns : goal.returns
returns c =
    subst (λ z. HasFirst table_shown (table_given z) c.loop-local.tables.entries (seen_locals c.args.locals.now)) c.requires
    (λ name. first_all table_shown (table_given c.args.actions.now) seen_local c.args.locals.now c.loop-local.local-index c.loop-local.tables.entries name (found (table_given c.args.actions.now name) (map seen_local c.args.locals.now))
    (at_drop_all (λ z. z) c.args.locals.now c.loop-local.local-index c.loop-local-test.false) (c.loop-local.invariant name))
