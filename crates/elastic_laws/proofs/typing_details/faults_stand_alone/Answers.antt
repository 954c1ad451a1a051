use Rattle.elastic_laws.proofs.Typing.UnmetLaws.{breaks_only, broken_rule, fixed_names, std_fields}
use Rattle.elastic_laws.proofs.typing_details.faults_stand_alone.Goals as goal

pub returns : goal.returns
unfolding broken_rule fixed_names std_fields
returns c = search (breaks_only)
