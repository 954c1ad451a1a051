use Rattle.std.proofs.Common.{refl}
use Rattle.std.specs.Prelude.{map}
use Rattle.elastic_ast.specs.Seen.{seen_entry}
use Rattle.elastic_ast.specs.Units.Reach.{entries_read}
use Rattle.unit_parts.specs.Gathered.{entry_reads}
use Rattle.unit_parts.proofs.GatheredLaws.{gather_on}
use Rattle.unit_parts.proofs.reads.add_entries.Goals as goal

pub loop-entry-preserved : goal.loop-entry-preserved
loop-entry-preserved c =
    gather_on (λ xs. entries_read (map seen_entry xs)) (entry_reads (seen_entry c.entry-item.result)) c.args.entries.now c.loop-entry.entry-index c.entry-item.result c.loop-entry.reads c.add_entry.new.reads _ refl c.loop-entry-test.true
    c.entry-item.is c.in_ok-add_entry.ensures c.loop-entry.invariant
