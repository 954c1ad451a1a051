use Rattle.std.proofs.Common.{◌≡◌, drop}
use Rattle.decl_check.specs.TableRules.{entries_break}
use Rattle.decl_check.proofs.match_tables.check_entries.Given as goal

abbrev pub invariant-loop-entry : goal.invariant-loop-entry
invariant-loop-entry l = entries_break l.allow_reserved l.scope l.locals l.table (drop l.entry-index l.entries) ≡ entries_break l.allow_reserved l.scope l.locals l.table l.entries
