use Rattle.std.proofs.Common.{codes, refl, rules}
use Rattle.spelling.proofs.Balance.{stays_named, stays_sign}
use Rattle.spelling.proofs.ByParts.{behind_word, with_sign}
use Rattle.p4_declarations.proofs.packets.of_packet.Goals as goal

pub returns : goal.returns
returns c =
    behind_word c.fixed_name.new.self (stays_named (codes "pkt")) c.in_ok-fixed_name.ensures.taken
    (behind_word c.sign.new.self (stays_sign (codes ".") refl refl) c.in_ok-sign.ensures.taken
    (behind_word c.fixed_name-2.new.self (stays_named c.args.word.now) c.in_ok-fixed_name-2.ensures.taken
    (with_sign (λ old new r call. search rules) c.then_sign.ensures)))
