use Rattle.std.proofs.Common.{◌≡◌, drop}
use Rattle.decl_check.specs.TableRules.{values_break}
use Rattle.decl_check.proofs.match_tables.check_values.Given as goal

abbrev pub invariant-loop-i : goal.invariant-loop-i
invariant-loop-i l = values_break l.allow_reserved l.scope (drop l.i l.values) (drop l.i l.params) ≡ values_break l.allow_reserved l.scope l.values l.params
