use Rattle.std.proofs.Common.{codes, rules}
use Rattle.p4_declarations.specs.Flat.{SpellsMember}
use Rattle.p4_declarations.proofs.FieldSpelling.{member_no_sign}
use Rattle.p4_declarations.proofs.FlatWithin.{member_stays}
use Rattle.spelling.proofs.ByParts.{up_to, words_within}
use Rattle.spelling.proofs.WordsUpTo.{never_until, words_up_to}
use Rattle.p4_declarations.proofs.fields.members.Goals as goal

pub returns : goal.returns
returns c =
    words_up_to (up_to {Of = λ _. SpellsMember} record { none = λ more one later a b m at. member_no_sign one (codes "}") m at } (λ x. member_stays x) (λ old new r call. words_within (search rules)) c.until_closed.ensures)
    (never_until (λ old new e call. search rules) c.until_closed.ensures)
