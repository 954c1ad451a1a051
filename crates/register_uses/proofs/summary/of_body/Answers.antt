use Rattle.std.proofs.Common.{◌+◌, drop, ap, sym, ◌∙◌}
use Rattle.std.proofs.lemmas.List.{at_drop_all}
use Rattle.elastic_ast.specs.Seen.{seen_stmt, seen_stmts}
use Rattle.elastic_ast.specs.Typing.NamedRegisters.{plain_registers, body_registers}
use Rattle.register_uses.specs.Summaries.{both, plain_summary, summed}
use Rattle.program_names.proofs.Items.{drop_step}
use Rattle.register_uses.proofs.SummaryLaws.{sum_step, both_nothing}
use Rattle.register_uses.proofs.summary.of_body.Goals as goal

pub loop-stmt-preserved : goal.loop-stmt-preserved
loop-stmt-preserved c =
    sum_step (plain_registers (seen_stmt c.stmt-item.result)) (body_registers (seen_stmts (drop (c.loop-stmt.stmt-index + 1) c.args.body.now))) (body_registers (seen_stmts (drop c.loop-stmt.stmt-index c.args.body.now)))
    (plain_summary c.loop-stmt.summary) (plain_summary c.together-summary.result) (summed (body_registers (seen_stmts c.args.body.now)))
    (c.together-summary.ensures ∙ ap (both (plain_summary c.loop-stmt.summary)) c.of_stmt.ensures)
    (ap (λ z. body_registers (seen_stmts z)) (drop_step c.args.body.now c.loop-stmt.stmt-index c.stmt-item.result c.loop-stmt-test.true c.stmt-item.is))
    c.loop-stmt.invariant

pub returns : goal.returns
returns c = sym (both_nothing (plain_summary c.loop-stmt.summary)) ∙ sym (at_drop_all (λ z. both (plain_summary c.loop-stmt.summary) (summed (body_registers (seen_stmts z)))) c.args.body.now c.loop-stmt.stmt-index c.loop-stmt-test.false) ∙ c.loop-stmt.invariant
