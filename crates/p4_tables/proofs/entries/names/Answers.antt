use Rattle.spelling.proofs.WordsUpTo.{never_until, words_up_to}
use Rattle.spelling.proofs.ByParts.{up_to, words_within}
use Rattle.std.proofs.Common.{codes, rules}
use Rattle.p4_tables.proofs.EntrySpelling.{name_no_sign}
use Rattle.p4_tables.proofs.TablesWithin.{name_stays}
use Rattle.p4_tables.proofs.entries.names.Goals as goal

pub returns : goal.returns
returns c =
    words_up_to (up_to record { none = λ more one later a b m at. name_no_sign one (codes "}") m at } (λ name. name_stays name) (λ old new r call. words_within (search rules)) c.until_closed.ensures)
    (never_until (λ old new e call. search rules) c.until_closed.ensures)
