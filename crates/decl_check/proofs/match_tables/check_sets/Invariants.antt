use Rattle.std.proofs.Common.{◌≡◌, drop}
use Rattle.decl_check.specs.TableRules.{sets_break}
use Rattle.decl_check.proofs.match_tables.check_sets.Given as goal

abbrev pub invariant-loop-i : goal.invariant-loop-i
invariant-loop-i l = sets_break l.allow_reserved l.scope (drop l.i l.sets) (drop l.i l.keys) ≡ sets_break l.allow_reserved l.scope l.sets l.keys
