use Rattle.std.proofs.Common.{refl, sym, subst}
use Rattle.elastic_ast.specs.Seen.{seen_local}
use Rattle.elastic_ast.specs.declared.declarations.Local.TheVariants as local
use Rattle.std.proofs.lemmas.Result.{on_ok_weaker}
use Rattle.register_uses.specs.LocalTables.{action_shown, action_given, EntersAction}
use Rattle.program_names.proofs.FirstLaws.{enters_nothing}
use Rattle.register_uses.proofs.LookUpLaws.{action_entered}
use Rattle.register_uses.proofs.actions.enter_action.Goals as goal

pub returns-in-Action : goal.returns-in-Action
returns-in-Action c =
    on_ok_weaker c.enter.result
    (λ h. subst (EntersAction c.args.table.now.entries c.enter.new.table.entries) (sym c.in-Action.is)
    (action_entered c.args.table.now.entries c.enter.new.table.entries c.in-Action.action c.as_slice.result.now record { summary = c.of_body.result; body = c.as_slice-body.result } c.as_slice.ensures c.of_body.ensures c.as_slice-body.ensures h))
    c.enter.ensures

pub returns-in-Table : goal.returns-in-Table
returns-in-Table c =
    subst (EntersAction c.args.table.now.entries c.args.table.now.entries) (sym c.in-Table.is)
    (enters_nothing action_shown action_given c.args.table.now.entries (seen_local (local.Table c.in-Table.field-0)) (λ name. refl))
