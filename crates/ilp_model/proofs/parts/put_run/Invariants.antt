use Rattle.std.proofs.Common.{◌≡◌, ◌++◌}
use Rattle.ilp_model.specs.Written.{written_run}
use Rattle.ilp_model.proofs.parts.put_run.Given as goal

abbrev pub invariant-loop-step : goal.invariant-loop-step
invariant-loop-step l = l.parts ≡ l.initial.parts ++ written_run l.first l.step l.by
