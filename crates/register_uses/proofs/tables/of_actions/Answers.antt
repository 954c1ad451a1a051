use Rattle.std.proofs.Common.{◌+◌, drop, ap, sym, ◌∙◌}
use Rattle.std.proofs.lemmas.List.{at_drop_all}
use Rattle.register_uses.specs.LocalTables.{named_by_action, named_by_actions}
use Rattle.register_uses.specs.Summaries.{both, plain_summary, summed}
use Rattle.program_names.proofs.Items.{drop_step}
use Rattle.register_uses.proofs.SummaryLaws.{sum_step, both_nothing}
use Rattle.register_uses.proofs.tables.of_actions.Goals as goal

pub loop-name-preserved : goal.loop-name-preserved
loop-name-preserved c =
    sum_step (named_by_action c.args.actions.now c.name-item.result) (named_by_actions c.args.actions.now (drop (c.loop-name.name-index + 1) c.args.names.now)) (named_by_actions c.args.actions.now (drop c.loop-name.name-index c.args.names.now))
    (plain_summary c.loop-name.summary) (plain_summary c.together-summary.result) (summed (named_by_actions c.args.actions.now c.args.names.now))
    (c.together-summary.ensures ∙ ap (both (plain_summary c.loop-name.summary)) c.summary_of.ensures)
    (ap (named_by_actions c.args.actions.now) (drop_step c.args.names.now c.loop-name.name-index c.name-item.result c.loop-name-test.true c.name-item.is))
    c.loop-name.invariant

pub returns : goal.returns
returns c = sym (both_nothing (plain_summary c.loop-name.summary)) ∙ sym (at_drop_all (λ z. both (plain_summary c.loop-name.summary) (summed (named_by_actions c.args.actions.now z))) c.args.names.now c.loop-name.name-index c.loop-name-test.false) ∙ c.loop-name.invariant
