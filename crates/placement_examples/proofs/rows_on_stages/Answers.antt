use Rattle.placement_examples.proofs.RowLaws.{rows}
use Rattle.placement_examples.proofs.rows_on_stages.Goals as goal

pub returns : goal.returns
returns c = rows
