use Rattle.std.proofs.Common.{refl}
use Rattle.spelling.specs.Readers.{NoParts, SomeParts}
use Rattle.spelling.proofs.Only.{not_there}
use Rattle.spelling.proofs.parts.commas.Goals as goal

pub returns-then-is_at_sign : goal.returns-then-is_at_sign
returns-then-is_at_sign g c = rw c.new.ensures (NoParts (c.if-is_at_sign.ensures.0 refl) refl)

pub returns : goal.returns
returns g c = SomeParts _ (not_there c.if-is_at_sign.ensures.1) c.separated.ensures
