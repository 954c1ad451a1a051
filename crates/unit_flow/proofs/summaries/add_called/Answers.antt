use Rattle.unit_flow.proofs.summaries.add_called.Goals as goal

pub returns : goal.returns
returns c = record { summary = c.in_ok-summary.summary; puts = c.in_ok-put.ensures; is_summary = c.in_ok-summary.ensures }
