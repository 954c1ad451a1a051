use Rattle.elastic_laws.proofs.Typing.UnmetLaws.{breaks_only, is_typed, broken_rule, fixed_names, std_fields}
use Rattle.elastic_laws.proofs.typing_examples.names_are_declared_once_and_known.Goals as goal

pub returns : goal.returns
unfolding broken_rule fixed_names std_fields
returns c = search (breaks_only, is_typed)
