use Rattle.std.proofs.Common.{◌≡◌, drop}
use Rattle.std.specs.Prelude.{map}
use Rattle.elastic_ast.specs.Seen.{seen_entry}
use Rattle.elastic_ast.specs.Units.Reach.{entries_read}
use Rattle.unit_parts.specs.Gathered.{with_locations}
use Rattle.unit_parts.proofs.reads.add_entries.Given as goal

abbrev pub invariant-loop-entry : goal.invariant-loop-entry
invariant-loop-entry l = with_locations l.reads (entries_read (map seen_entry (drop l.entry-index l.entries))) ≡ with_locations l.initial.reads (entries_read (map seen_entry l.entries))
