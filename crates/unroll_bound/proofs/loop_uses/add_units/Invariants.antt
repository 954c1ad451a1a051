use Rattle.std.proofs.Common.{◌-◌, map, drop, length}
use Rattle.std.specs.Prelude.{All}
use Rattle.elastic_ast.specs.Units.SeenUnits.{seen_unit}
use Rattle.unroll_bound.specs.SymbolLists.{IsListOf}
use Rattle.unroll_bound.specs.LoopUses.{loop_use, IsSmallUse}
use Rattle.unroll_bound.proofs.loop_uses.add_units.Given as goal

abbrev pub invariant-loop-i : goal.invariant-loop-i
invariant-loop-i l = record {
  list : IsListOf (length l.initial.uses) (loop_use (drop l.i (map seen_unit l.units))) l.uses;
  small : All (IsSmallUse (length l.units - l.i)) l.uses;
}
