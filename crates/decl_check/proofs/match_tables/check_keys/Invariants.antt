use Rattle.std.proofs.Common.{◌≡◌, drop}
use Rattle.decl_check.specs.TableRules.{keys_break}
use Rattle.decl_check.proofs.match_tables.check_keys.Given as goal

abbrev pub invariant-loop-key : goal.invariant-loop-key
invariant-loop-key l = keys_break l.allow_reserved l.scope (drop l.key-index l.keys) ≡ keys_break l.allow_reserved l.scope l.keys
