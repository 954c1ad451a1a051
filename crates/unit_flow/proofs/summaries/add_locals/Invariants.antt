use Rattle.expr_types.specs.Scoped.{before_of}
use Rattle.unit_flow.specs.Remembered.{AreSummaries}
use Rattle.unit_flow.proofs.summaries.add_locals.Given as goal

abbrev pub invariant-loop-local : goal.invariant-loop-local
invariant-loop-local l = AreSummaries (before_of l.scope) l.known
