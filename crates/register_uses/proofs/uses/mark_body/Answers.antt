use Rattle.std.proofs.Common.{take, flat_map, sym, ◌∙◌, subst}
use Rattle.elastic_ast.specs.Seen.{seen_stmt}
use Rattle.elastic_ast.specs.Typing.NamedRegisters.{plain_registers}
use Rattle.register_uses.specs.Walks.{Marks}
use Rattle.register_uses.proofs.ListLaws.{plain_given, body_given, given_more, given_all}
use Rattle.register_uses.proofs.UseLaws.{marks_both, marks_none}
use Rattle.register_uses.proofs.uses.mark_body.Goals as goal

pub loop-stmt-init : goal.loop-stmt-init
loop-stmt-init c = marks_none c.args.uses.now.entries

pub loop-stmt-preserved : goal.loop-stmt-preserved
loop-stmt-preserved c =
    subst (Marks c.args.uses.now.entries c.mark_stmt.new.uses.entries) (sym (given_more plain_given c.args.body.now c.loop-stmt.stmt-index c.stmt-item.result c.loop-stmt-test.true c.stmt-item.is))
    (marks_both c.args.uses.now.entries c.loop-stmt.uses.entries c.mark_stmt.new.uses.entries (flat_map plain_given (take c.loop-stmt.stmt-index c.args.body.now)) (plain_registers (seen_stmt c.stmt-item.result)) c.loop-stmt.invariant
    c.in_ok-mark_stmt.ensures)

pub returns : goal.returns
returns c = subst (Marks c.args.uses.now.entries c.loop-stmt.uses.entries) (given_all plain_given c.args.body.now c.loop-stmt.stmt-index c.loop-stmt-test.false ∙ body_given c.args.body.now) c.loop-stmt.invariant
