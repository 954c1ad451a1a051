use Rattle.elx_bits.proofs.WordLaws.{ones_law}
use Rattle.elx_bits.proofs.bits.ones.Goals as goal

pub returns : goal.returns
returns c = ones_law c.args.width c.requires.within
