use Rattle.std.proofs.Common.{sym, ◌∙◌}
use Rattle.indexmap.proofs.CallerLemmas.{insert_entry-new}
use Rattle.program_names.proofs.FirstLaws.{enters_last, enters_known}
use Rattle.program_names.proofs.Items.{one_none}
use Rattle.program_names.proofs.first_named.enter.Goals as goal

pub returns-in_ok-insert : goal.returns-in_ok-insert
returns-in_ok-insert g c =
    enters_last c.args.table.now.entries c.insert.new.self.entries c.args.name c.args.value
    (c.in_ok-insert.ensures.entries ∙ insert_entry-new _ c.args.table.now c.args.name c.args.value (one_none _ (sym c.contains_key.ensures ∙ c.if-not-contains_key.true)))

pub returns-else-not-contains_key : goal.returns-else-not-contains_key
returns-else-not-contains_key g c = enters_known c.args.table.now.entries c.args.name.now c.args.value (sym c.contains_key.ensures ∙ c.if-not-contains_key.false)
