use Rattle.std.proofs.Common.{codes, refl, rules}
use Rattle.spelling.proofs.Balance.{stays_named, stays_reserved, stays_sign}
use Rattle.spelling.proofs.ByParts.{around, behind_word}
use Rattle.p4_tables.proofs.properties.entry_block.Goals as goal

pub returns : goal.returns
returns c =
    behind_word c.reserved.new.self (stays_reserved (codes "const")) c.in_ok-reserved.ensures.taken
    (behind_word c.fixed_name.new.self (stays_named (codes "entries")) c.in_ok-fixed_name.ensures.taken
    (behind_word c.sign.new.self (stays_sign (codes "=") refl refl) c.in_ok-sign.ensures.taken
    (around refl (λ inner old new r call. search rules) c.around.ensures)))
