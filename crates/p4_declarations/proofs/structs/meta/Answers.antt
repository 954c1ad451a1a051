use Rattle.std.proofs.Common.{codes, refl, rules}
use Rattle.spelling.proofs.Balance.{stays_named, stays_reserved}
use Rattle.spelling.proofs.ByParts.{around, behind_word}
use Rattle.p4_declarations.specs.Flat.{SpellsMetaFields}
use Rattle.p4_declarations.proofs.structs.meta.Goals as goal

pub returns : goal.returns
returns c =
    behind_word c.reserved.new.self (stays_reserved (codes "struct")) c.in_ok-reserved.ensures.taken
    (behind_word c.fixed_name.new.self (stays_named (codes "meta_t")) c.in_ok-fixed_name.ensures.taken
    (around {Of = SpellsMetaFields} refl (λ inner old new r call. search rules) c.around.ensures))
