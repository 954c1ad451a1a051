use Rattle.expr_types.specs.Scoped.{before_of}
use Rattle.unit_flow.specs.Callees.{seen_call}
use Rattle.unit_flow.proofs.SummaryLaws.{summary_is}
use Rattle.unit_flow.proofs.called.summary.Goals as goal

pub returns : goal.returns
returns c = summary_is (before_of c.args.scope.now) (seen_call c.args.call) c.in_ok-callee.callee c.in_ok-summary.summary c.in_ok-callee.ensures c.in_ok-summary.ensures
