use Rattle.spelling.proofs.WordsUpTo.{words_within_up_to}
use Rattle.std.proofs.Common.{codes, refl, rules}
use Rattle.spelling.proofs.Balance.{stays_named, stays_sign}
use Rattle.spelling.proofs.ByParts.{around, behind_word}
use Rattle.p4_tables.proofs.properties.action_block.Goals as goal

pub returns : goal.returns
returns c =
    behind_word c.fixed_name.new.self (stays_named (codes "actions")) c.in_ok-fixed_name.ensures.taken
    (behind_word c.sign.new.self (stays_sign (codes "=") refl refl) c.in_ok-sign.ensures.taken
    (around refl (λ inner old new r call. words_within_up_to (search rules)) c.around.ensures))
