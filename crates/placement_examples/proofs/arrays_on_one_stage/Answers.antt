use Rattle.placement_examples.proofs.ArrayLaws.{arrays}
use Rattle.placement_examples.proofs.arrays_on_one_stage.Goals as goal

pub returns : goal.returns
returns c = arrays
