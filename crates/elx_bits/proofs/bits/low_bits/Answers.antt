use Rattle.elx_bits.proofs.WordLaws.{low_law}
use Rattle.elx_bits.proofs.bits.low_bits.Goals as goal

pub returns-clause-value : goal.returns-clause-value
returns-clause-value c = low_law c.args.number c.ones.result c.args.width c.ones.ensures
