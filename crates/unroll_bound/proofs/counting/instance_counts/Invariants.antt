use Rattle.std.proofs.Common.{◌≡◌, ◌≤◌, ◌-◌, ◌*◌, drop, length}
use Rattle.std.specs.Prelude.{sum_by}
use Rattle.elastic_ast.specs.Units.Instances.{nth_size}
use Rattle.elastic_ast.specs.Units.SeenUnits.{seen_unit}
use Rattle.place_check.specs.Walking.{turns_of}
use Rattle.unroll_bound.specs.Counts.{symbolic_turns}
use Rattle.unroll_bound.proofs.counting.instance_counts.Given as goal

abbrev pub invariant-loop-i : goal.invariant-loop-i
invariant-loop-i l = record {
  all : l.all ≡ sum_by (λ unit. turns_of (nth_size l.bounds) unit.size) (drop l.i l.units);
  symbolic : l.symbolic ≡ sum_by (λ unit. symbolic_turns (nth_size l.bounds) (seen_unit unit)) (drop l.i l.units);
  all_small : l.all ≤ (length l.units - l.i) * 18446744073709551615;
  symbolic_small : l.symbolic ≤ (length l.units - l.i) * 18446744073709551615;
}
