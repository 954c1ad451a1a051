use Rattle.expr_types.specs.Scoped.{before_of}
use Rattle.unit_flow.specs.Callees.{seen_call}
use Rattle.unit_flow.proofs.SummaryLaws.{if_known}
use Rattle.unit_flow.proofs.summaries.known_summary.Goals as goal

pub returns : goal.returns
returns c = if_known (before_of c.args.scope.now) c.args.known.now (seen_call c.args.call) c.find.result c.requires c.find.ensures
