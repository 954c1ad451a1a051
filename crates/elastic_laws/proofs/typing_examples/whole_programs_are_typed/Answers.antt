use Rattle.elastic_laws.proofs.Typing.UnmetLaws.{is_typed, broken_rule, fixed_names, std_fields}
use Rattle.elastic_laws.proofs.typing_examples.whole_programs_are_typed.Goals as goal

pub returns : goal.returns
unfolding broken_rule fixed_names std_fields
returns c = search is_typed
