use Rattle.elastic_laws.proofs.Typing.KnownLaws.{types_known, types_wide}
use Rattle.elastic_laws.proofs.typing_laws.types_are_known_and_wide.Goals as goal

pub returns : goal.returns
returns c = record { known = types_known; wide = types_wide }
