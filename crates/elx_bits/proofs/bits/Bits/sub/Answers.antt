use Rattle.std.proofs.Common.{◌∙◌, ◌<◌, ◌^◌, sym, subst}
use Rattle.elx_bits.proofs.WordLaws.{cut_law, sub_law}
use Rattle.elx_bits.proofs.bits.Bits.sub.Goals as goal

pub returns : goal.returns
returns c =
    let small = subst (λ n. c.args.other.value < 2 ^ n) (sym c.requires) c.args.other.fits in
    record { width = c.low_bits.ensures.width; value = c.low_bits.ensures.value ∙ cut_law _ c.args.self.width c.args.self.within ∙ sub_law c.args.self.value c.args.other.value c.args.self.width c.args.self.within small }
