use Rattle.std.proofs.Common.{refl, arith}
use Rattle.elx_bits.proofs.WordLaws.{cat_fits, cat_law}
use Rattle.elx_bits.proofs.bits.Bits.cat.Goals as goal

pub invariant_of-result : goal.invariant_of-result
invariant_of-result c = record {
  positive = (let some = c.args.self.positive in omega arith);
  within = c.requires;
  fits = cat_fits c.args.self.value c.args.low.value c.args.self.width c.args.low.width c.args.self.fits c.args.low.fits c.requires;
}

pub returns : goal.returns
returns c = record { width = refl; value = cat_law c.args.self.value c.args.low.value c.args.self.width c.args.low.width c.args.self.fits c.args.low.fits c.requires }
