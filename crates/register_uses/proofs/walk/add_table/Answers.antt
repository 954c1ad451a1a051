use Rattle.std.proofs.Common.{refl}
use Rattle.std.proofs.lemmas.Result.{on_ok_weaker}
use Rattle.register_uses.specs.LocalTables.{named_by_table}
use Rattle.register_uses.proofs.WalkLaws.{added_nothing, added_only, added_several}
use Rattle.register_uses.proofs.walk.add_table.Goals as goal

pub returns-in-Nothing : goal.returns-in-Nothing
returns-in-Nothing c = added_nothing c.args.locals.now c.args.walk.now c.args.looped (named_by_table c.args.locals.now c.args.name.now) c.requires c.in-Nothing.ensures

pub returns-in-Only : goal.returns-in-Only
returns-in-Only c =
    on_ok_weaker c.note.result
    (λ h. added_only c.args.locals.now c.args.walk.now record { uses = c.note.new.uses; actions = c.args.walk.now.actions; tables = c.args.walk.now.tables } c.args.looped c.in-Only.register.now
    (named_by_table c.args.locals.now c.args.name.now) c.requires refl refl c.in-Only.ensures h)
    c.note.ensures

pub returns-in-Several : goal.returns-in-Several
returns-in-Several c =
    on_ok_weaker c.mark_table.result (λ h. added_several c.args.locals.now c.args.walk.now c.mark_table.new.walk c.args.looped (named_by_table c.args.locals.now c.args.name.now) c.in-Several.ensures h) c.mark_table.ensures
