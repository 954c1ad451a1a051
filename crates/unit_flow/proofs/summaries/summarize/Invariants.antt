use Rattle.expr_types.specs.Scoped.{before_of}
use Rattle.unit_flow.specs.Remembered.{AreSummaries}
use Rattle.unit_flow.proofs.summaries.summarize.Given as goal

abbrev pub invariant-loop-decl : goal.invariant-loop-decl
invariant-loop-decl l = AreSummaries (before_of l.scope) l.known
