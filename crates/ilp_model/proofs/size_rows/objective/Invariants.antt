use Rattle.std.proofs.Common.{◌≡◌, ◌++◌, drop}
use Rattle.std.specs.Prelude.{flat_map}
use Rattle.ilp_model.specs.Written.{written_sizes, written_rise}
use Rattle.ilp_model.proofs.size_rows.objective.Given as goal

abbrev pub invariant-loop-key : goal.invariant-loop-key
invariant-loop-key l = l.goal ++ flat_map (written_rise l.first) (drop l.key-index l.keys) ≡ written_sizes 0 l.by ++ flat_map (written_rise l.first) l.keys
