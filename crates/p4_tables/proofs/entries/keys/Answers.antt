use Rattle.std.proofs.Common.{codes, rules}
use Rattle.spelling.proofs.ByParts.{up_to}
use Rattle.p4_tables.proofs.EntrySpelling.{key_no_sign}
use Rattle.p4_tables.proofs.TablesWithin.{key_stays}
use Rattle.p4_tables.proofs.entries.keys.Goals as goal

pub returns : goal.returns
returns c = up_to record { none = λ more one later a b m at. key_no_sign more one (codes "}") m at } (key_stays c.args.depth) (λ old new r call. search rules) c.until_closed.ensures
