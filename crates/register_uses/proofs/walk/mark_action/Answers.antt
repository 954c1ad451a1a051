use Rattle.std.proofs.Common.{refl, sym, ap, ◌∙◌}
use Rattle.elastic_ast.specs.Seen.{seen_stmts}
use Rattle.elastic_ast.specs.Typing.NamedRegisters.{body_registers}
use Rattle.register_uses.specs.LocalTables.{named_by_action}
use Rattle.register_uses.specs.Walks.{is_in}
use Rattle.register_uses.proofs.WalkLaws.{marked_action, marked_again}
use Rattle.register_uses.proofs.walk.mark_action.Goals as goal

pub returns-in_ok-insert : goal.returns-in_ok-insert
returns-in_ok-insert c =
    marked_action c.args.actions.now c.args.walk.now record { uses = c.mark_body.new.uses; actions = c.insert.new.self; tables = c.args.walk.now.tables } c.as_slice-then-not-contains.result c.args.name.now
    (body_registers (seen_stmts c.body_of.result.now)) c.body_of.ensures c.requires c.in_ok-mark_body.ensures c.as_slice-then-not-contains.ensures c.in_ok-insert.ensures.keys refl

pub returns-else-not-contains : goal.returns-else-not-contains
returns-else-not-contains c =
    marked_again c.args.actions.now c.args.walk.now (named_by_action c.args.actions.now c.args.name.now) c.requires
    (c.requires.actions c.args.name.now (sym (ap (is_in c.args.walk.now.actions.keys) c.as_slice.ensures) ∙ sym c.contains.ensures ∙ c.if-not-contains.false))
