use Rattle.std.proofs.Common.{◌≡◌}
use Rattle.stage_layout.specs.Reading.{stage_from}
use Rattle.stage_layout.proofs.layout.stage_of.Given as goal

abbrev pub invariant-loop-stage : goal.invariant-loop-stage
invariant-loop-stage l = stage_from l.point l.first l.stage ≡ stage_from l.point l.first l.fn.stages
