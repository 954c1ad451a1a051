use Rattle.std.proofs.Common.{◌∙◌}
use Rattle.target_desc.proofs.Keys.{list_all-is_key}
use Rattle.target_desc.proofs.reading.has_no_other_key.Goals as goal

pub returns : goal.returns
returns c = c.all_keys_known.ensures ∙ list_all-is_key c.args.table.now.entries
