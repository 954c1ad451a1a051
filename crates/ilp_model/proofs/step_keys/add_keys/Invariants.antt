use Rattle.std.proofs.Common.{◌≡◌, ◌++◌, drop, length}
use Rattle.ilp_model.specs.StepKeys.{keys_after, keys_of_table}
use Rattle.ilp_model.specs.SeenKeys.{seen_keys}
use Rattle.ilp_model.proofs.step_keys.add_keys.Given as goal

abbrev pub invariant-loop-i : goal.invariant-loop-i
invariant-loop-i l = seen_keys l.keys ++ keys_after (λ symbol. l.bound) l.table.minus l.table.symbol (length l.keys) l.before (drop l.i l.pairs) ≡ seen_keys l.initial.keys ++ keys_of_table (λ symbol. l.bound) (length l.initial.keys) l.table
