use Rattle.std.proofs.Common.{codes, rules}
use Rattle.p4_declarations.specs.Flat.{SpellsHeaderField}
use Rattle.p4_declarations.proofs.FieldSpelling.{header_field_no_sign}
use Rattle.p4_declarations.proofs.FlatWithin.{header_field_stays}
use Rattle.spelling.proofs.ByParts.{up_to, words_within}
use Rattle.spelling.proofs.WordsUpTo.{never_until, words_up_to}
use Rattle.p4_declarations.proofs.fields.header_fields.Goals as goal

pub returns : goal.returns
returns c =
    words_up_to (up_to {Of = λ _. SpellsHeaderField} record { none = λ more one later a b m at. header_field_no_sign one (codes "}") m at } (λ x. header_field_stays x) (λ old new r call. words_within (search rules)) c.until_closed.ensures)
    (never_until (λ old new e call. search rules) c.until_closed.ensures)
