use Rattle.std.proofs.Common.{refl, sym, ap, ◌∙◌, subst}
use Rattle.std.proofs.lemmas.Result.{on_ok_weaker}
use Rattle.register_uses.specs.Summaries.{summed}
use Rattle.register_uses.specs.LocalTables.{named_by_action}
use Rattle.register_uses.specs.Walks.{IsMarked, HasMarked}
use Rattle.register_uses.proofs.WalkLaws.{added_nothing, added_only, added_several}
use Rattle.register_uses.proofs.walk.add_action.Goals as goal

pub returns-in-Nothing : goal.returns-in-Nothing
returns-in-Nothing c =
    added_nothing c.args.locals.now c.args.walk.now c.args.looped (named_by_action c.args.locals.now c.args.name.now) c.requires (c.in-Nothing.ensures ∙ ap (λ z. summed (named_by_action z c.args.name.now)) c.actions.ensures)

pub returns-in-Only : goal.returns-in-Only
returns-in-Only c =
    on_ok_weaker c.note.result
    (λ h. added_only c.args.locals.now c.args.walk.now record { uses = c.note.new.uses; actions = c.args.walk.now.actions; tables = c.args.walk.now.tables } c.args.looped c.in-Only.register.now
    (named_by_action c.args.locals.now c.args.name.now) c.requires refl refl (c.in-Only.ensures ∙ ap (λ z. summed (named_by_action z c.args.name.now)) c.actions.ensures) h)
    c.note.ensures

pub returns-in-Several : goal.returns-in-Several
returns-in-Several c =
    on_ok_weaker c.mark_action.result
    (λ h. added_several c.args.locals.now c.args.walk.now c.mark_action.new.walk c.args.looped (named_by_action c.args.locals.now c.args.name.now)
    (c.in-Several.ensures ∙ ap (λ z. summed (named_by_action z c.args.name.now)) c.actions.ensures)
    (subst (λ z. HasMarked z c.args.walk.now c.mark_action.new.walk (named_by_action z c.args.name.now)) c.actions-in-Several.ensures h))
    c.mark_action.ensures

pub mark_action-requires : goal.mark_action-requires
mark_action-requires c = subst (λ z. IsMarked z c.args.walk.now) (sym c.actions-in-Several.ensures) c.requires
