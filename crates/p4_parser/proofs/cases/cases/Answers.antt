use Rattle.spelling.proofs.ByParts.{up_to_seen, words_within}
use Rattle.spelling.proofs.WordsUpTo.{never_until, words_up_to}
use Rattle.p4_parser.proofs.StateSpelling.{case_no_sign}
use Rattle.std.proofs.Common.{codes, rules}
use Rattle.p4_parser.proofs.DeclarationsWithin.{case_stays}
use Rattle.p4_parser.proofs.cases.cases.Goals as goal

pub returns : goal.returns
returns c =
    words_up_to (up_to_seen record { none = λ more one later a b m at. case_no_sign one (codes "}") m at } (λ chosen. case_stays chosen) (λ old new r call. words_within (search rules)) c.until_closed.ensures)
    (never_until (λ old new e call. search rules) c.until_closed.ensures)
