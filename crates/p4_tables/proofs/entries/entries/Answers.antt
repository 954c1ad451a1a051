use Rattle.std.proofs.Common.{rules}
use Rattle.spelling.proofs.ByParts.{up_to_seen}
use Rattle.p4_tables.proofs.EntrySpelling.{entry_no_end}
use Rattle.p4_tables.proofs.TablesWithin.{entry_stays}
use Rattle.p4_tables.proofs.entries.entries.Goals as goal

pub returns : goal.returns
returns c = up_to_seen record { none = λ more one later a b m at. entry_no_end more one m at } (entry_stays c.args.depth) (λ old new r call. search rules) c.until_closed.ensures
