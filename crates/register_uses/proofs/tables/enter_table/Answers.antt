use Rattle.std.proofs.Common.{refl, sym, ap, ◌∙◌, subst}
use Rattle.elastic_ast.specs.Seen.{seen_local}
use Rattle.elastic_ast.specs.declared.declarations.Local.TheVariants as local
use Rattle.std.proofs.lemmas.Result.{on_ok_weaker}
use Rattle.register_uses.specs.Summaries.{summed}
use Rattle.register_uses.specs.LocalTables.{named_by_actions, table_shown, table_given, EntersTable}
use Rattle.program_names.proofs.FirstLaws.{enters_nothing}
use Rattle.register_uses.proofs.LookUpLaws.{table_entered}
use Rattle.register_uses.proofs.tables.enter_table.Goals as goal

pub returns-in-Table : goal.returns-in-Table
returns-in-Table c =
    on_ok_weaker c.enter.result
    (λ h. subst (EntersTable c.args.actions.now c.args.known.now.entries c.enter.new.table.entries) (sym c.in-Table.is)
    (table_entered c.args.actions.now c.args.known.now.entries c.enter.new.table.entries c.in-Table.table c.as_slice-in-Table-2.result.now record { summary = c.of_actions.result; actions = c.as_slice-in-Table.result } c.as_slice-in-Table-2.ensures
    (c.of_actions.ensures ∙ ap (λ z. summed (named_by_actions c.args.actions.now z)) (c.as_slice.ensures ∙ sym c.as_slice-in-Table.ensures)) c.as_slice-in-Table.ensures h))
    c.enter.ensures

pub returns-in-Action : goal.returns-in-Action
returns-in-Action c =
    subst (EntersTable c.args.actions.now c.args.known.now.entries c.args.known.now.entries) (sym c.in-Action.is)
    (enters_nothing table_shown (table_given c.args.actions.now) c.args.known.now.entries (seen_local (local.Action c.in-Action.field-0)) (λ name. refl))
