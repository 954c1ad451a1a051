use Rattle.std.proofs.Common.{length, ap, sym, ◌∙◌}
use Rattle.elastic_ast.specs.Seen.{seen_entry}
use Rattle.std.proofs.lemmas.List.{length-map}
use Rattle.decl_check.proofs.match_tables.count_of.Goals as goal

pub returns : goal.returns
returns c = ap length c.as_slice.ensures ∙ sym (length-map c.args.table.now.entries seen_entry)
