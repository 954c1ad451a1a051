use Rattle.std.proofs.Common.{refl, sym, ap, ◌∙◌, subst}
use Rattle.register_uses.specs.LocalTables.{named_by_actions, named_by_table}
use Rattle.register_uses.specs.Walks.{is_in, IsMarked, HasMarked}
use Rattle.register_uses.proofs.WalkLaws.{marked_table, marked_again}
use Rattle.register_uses.proofs.walk.mark_table.Goals as goal

pub returns-in_ok-insert : goal.returns-in_ok-insert
returns-in_ok-insert c =
    marked_table c.args.locals.now c.args.walk.now c.mark_actions.new.walk record { uses = c.mark_actions.new.walk.uses; actions = c.mark_actions.new.walk.actions; tables = c.insert.new.self } c.as_slice-then-not-contains.result c.args.name.now
    (named_by_actions c.args.locals.now c.actions_of.result.now) c.actions_of.ensures
    (subst (λ z. HasMarked z c.args.walk.now c.mark_actions.new.walk (named_by_actions z c.actions_of.result.now)) c.actions.ensures c.in_ok-mark_actions.ensures) refl
    c.as_slice-then-not-contains.ensures c.in_ok-insert.ensures.keys refl

pub returns-else-not-contains : goal.returns-else-not-contains
returns-else-not-contains c =
    marked_again c.args.locals.now c.args.walk.now (named_by_table c.args.locals.now c.args.name.now) c.requires
    (c.requires.tables c.args.name.now (sym (ap (is_in c.args.walk.now.tables.keys) c.as_slice.ensures) ∙ sym c.contains.ensures ∙ c.if-not-contains.false))

pub mark_actions-requires : goal.mark_actions-requires
mark_actions-requires c = subst (λ z. IsMarked z c.args.walk.now) (sym c.actions.ensures) c.requires
