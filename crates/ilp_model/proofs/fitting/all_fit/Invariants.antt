use Rattle.std.proofs.Common.{take, All}
use Rattle.elastic_ast.specs.Units.SeenUnits.{seen_unit}
use Rattle.ilp_model.specs.InLimits.{FitsUnit}
use Rattle.ilp_model.proofs.fitting.all_fit.Given as goal

abbrev pub invariant-loop-unit : goal.invariant-loop-unit
invariant-loop-unit l = All (λ unit. FitsUnit (seen_unit unit)) (take l.unit-index l.units)
