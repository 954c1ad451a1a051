use Rattle.std.proofs.Common.{◌∙◌, ◌*◌, ◌^◌, ◌%◌, ap}
use Rattle.elx_bits.proofs.WordLaws.{cut_law, shl_past}
use Rattle.elx_bits.proofs.bits.Bits.shl.Goals as goal

pub returns-in-Some : goal.returns-in-Some
returns-in-Some c =
    record { width = c.low_bits.ensures.width; value = c.low_bits.ensures.value ∙ cut_law _ c.args.self.width c.args.self.within ∙ ap (λ by. c.args.self.value * 2 ^ by % 2 ^ c.args.self.width) c.in-Some.ensures.0 }

pub returns-in-None : goal.returns-in-None
returns-in-None c = record { width = c.zero.ensures.width; value = c.zero.ensures.value ∙ shl_past c.args.self.value c.args.self.width c.args.by.value c.in-None.ensures }
