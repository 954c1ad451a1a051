use Rattle.std.proofs.Common.{drop}
use Rattle.std.specs.Prelude.{map}
use Rattle.elastic_ast.specs.Units.SeenUnits.{seen_unit}
use Rattle.unit_flow.specs.declared.header.HeaderBits.{HeaderBits}
use Rattle.unit_flow.specs.HeaderCounts.{CountsUnits}
use Rattle.unit_flow.proofs.header.add_predicates.Given as goal

abbrev pub invariant-loop-unit : goal.invariant-loop-unit
invariant-loop-unit l = (new : HeaderBits) → CountsUnits l.bits new (map seen_unit (drop l.unit-index l.units)) → CountsUnits l.initial.bits new (map seen_unit l.units)
