use Rattle.std.proofs.Common.{ap, ◌∙◌}
use Rattle.program_names.specs.FirstNamed.{entry_value}
use Rattle.unit_flow.proofs.summaries.under.Goals as goal

pub returns : goal.returns
returns c = c.get.ensures.value ∙ ap (entry_value c.args.table.now.entries) c.as_slice.ensures
