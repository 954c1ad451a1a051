use Rattle.std.proofs.Common.{◌∙◌}
use Rattle.elx_bits.proofs.WordLaws.{cut_law}
use Rattle.elx_bits.proofs.bits.Bits.add.Goals as goal

pub returns : goal.returns
returns c = record { width = c.low_bits.ensures.width; value = c.low_bits.ensures.value ∙ cut_law _ c.args.self.width c.args.self.within }
