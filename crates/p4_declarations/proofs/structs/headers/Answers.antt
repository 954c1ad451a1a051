use Rattle.std.proofs.Common.{codes, refl, rules}
use Rattle.spelling.proofs.Balance.{stays_named, stays_reserved}
use Rattle.spelling.proofs.ByParts.{around, behind_word}
use Rattle.spelling.proofs.WordsUpTo.{words_within_up_to}
use Rattle.p4_declarations.specs.Flat.{SpellsMembers}
use Rattle.p4_declarations.proofs.structs.headers.Goals as goal

pub returns : goal.returns
returns c =
    behind_word c.reserved.new.self (stays_reserved (codes "struct")) c.in_ok-reserved.ensures.taken
    (behind_word c.fixed_name.new.self (stays_named (codes "headers_t")) c.in_ok-fixed_name.ensures.taken
    (around {Of = λ _. SpellsMembers} refl (λ inner old new r call. words_within_up_to (search rules)) c.around.ensures))
