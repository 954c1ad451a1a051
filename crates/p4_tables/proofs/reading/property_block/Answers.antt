use Rattle.p4_tables.specs.Reading.{SpellsProperties}
use Rattle.spelling.proofs.ByParts.{around}
use Rattle.p4_tables.specs.Seen.{seen_parts}
use Rattle.std.proofs.Common.{refl, rules}
use Rattle.p4_tables.proofs.reading.property_block.Goals as goal

pub returns : goal.returns
returns c = around {Of = SpellsProperties} {seen = seen_parts} refl (λ inner old new r call. search rules) c.around.ensures
