use Rattle.std.proofs.Common.{◌∙◌}
use Rattle.elx_bits.proofs.WordLaws.{shr_past}
use Rattle.elx_bits.proofs.bits.Bits.shr.Goals as goal

pub returns-in-None : goal.returns-in-None
returns-in-None c = record { width = c.zero.ensures.width; value = c.zero.ensures.value ∙ shr_past c.args.self.value c.args.self.width c.args.by.value c.args.self.fits c.in-None.ensures }
