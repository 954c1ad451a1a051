use Rattle.std.proofs.Common.{◌≡◌, ◌++◌, drop, map}
use Rattle.std.specs.Prelude.{flat_map}
use Rattle.elastic_ast.specs.Units.Instances.{nth_size}
use Rattle.elastic_ast.specs.Units.SeenUnits.{seen_unit}
use Rattle.ilp_model.specs.WrittenTops.{held_of}
use Rattle.ilp_model.proofs.tops.put_held_tops.Given as goal

abbrev pub invariant-loop-one : goal.invariant-loop-one
invariant-loop-one l = l.tops ++ flat_map (held_of (map seen_unit l.units) l.stages (nth_size l.bounds)) (drop l.one-index l.list)
    ≡ l.initial.tops ++ flat_map (held_of (map seen_unit l.units) l.stages (nth_size l.bounds)) l.list
