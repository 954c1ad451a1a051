use Rattle.std.proofs.Common.{sym, subst}
use Rattle.expr_types.specs.Scoped.{before_of}
use Rattle.unit_flow.specs.Callees.{IsCallee, seen_call}
use Rattle.unit_flow.proofs.called.callee_of.Goals as goal

pub returns-in-Nothing : goal.returns-in-Nothing
returns-in-Nothing c = subst (λ z. IsCallee (before_of c.args.scope.now) (seen_call z) c.no_callee.result) (sym c.in-Nothing.is) (c.no_callee.ensures (before_of c.args.scope.now))
