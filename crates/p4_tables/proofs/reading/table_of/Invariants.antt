use Rattle.std.proofs.Common.{length}
use Rattle.elastic_ast.specs.Seen.{seen_table}
use Rattle.p4_tables.proofs.TableSpelling.{Built}
use Rattle.p4_tables.proofs.reading.table_of.Given as goal

abbrev pub invariant-left : goal.invariant-left
invariant-left l = Built l.fn.name l.fn.parts l.left.items (seen_table l.table)

abbrev pub decreases-left : goal.decreases-left
decreases-left l = length l.left.items
