use Rattle.std.proofs.Common.{◌<◌, ◌^◌, sym, subst}
use Rattle.std.proofs.lemmas.Nat.{or_lt}
use Rattle.elx_bits.proofs.bits.Bits.or.Goals as goal

pub invariant_of-result : goal.invariant_of-result
invariant_of-result c = record {
  positive = c.args.self.positive;
  within = c.args.self.within;
  fits = or_lt c.args.self.width _ _ c.args.self.fits (subst (λ n. c.args.other.value < 2 ^ n) (sym c.requires) c.args.other.fits);
}
