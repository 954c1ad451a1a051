use Rattle.std.proofs.Common.{subst}
use Rattle.expr_types.specs.Scoped.{before_of}
use Rattle.unit_flow.specs.Callees.{IsSummaryOf}
use Rattle.unit_flow.proofs.summaries.needs_by.Goals as goal

pub returns : goal.returns
returns c =
    let decls = before_of c.args.scope.now in
    c.in_ok-needs.ensures decls (subst (λ z. IsSummaryOf decls z c.args.summary.now) c.requires.same c.requires.summary)
