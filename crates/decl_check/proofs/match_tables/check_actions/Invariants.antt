use Rattle.std.proofs.Common.{◌≡◌, drop}
use Rattle.decl_check.specs.TableRules.{listeds_break}
use Rattle.decl_check.proofs.match_tables.check_actions.Given as goal

abbrev pub invariant-loop-name : goal.invariant-loop-name
invariant-loop-name l = listeds_break l.allow_reserved l.locals (drop l.name-index l.names) ≡ listeds_break l.allow_reserved l.locals l.names
