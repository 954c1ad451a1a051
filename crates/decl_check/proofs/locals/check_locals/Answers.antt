use Rattle.std.proofs.Common.{◌≡◌, take, sym, ap, ◌∙◌}
use Rattle.decl_check.specs.ActionRules.{local_breaks}
use Rattle.decl_check.proofs.RefusalLaws.{refused_first}
use Rattle.stmt_check.proofs.Steps.{goes_past}
use Rattle.decl_check.proofs.ActionLaws.{locals_step}
use Rattle.decl_check.proofs.CallerLaws.{callers_here}
use Rattle.decl_check.proofs.locals.check_locals.Goals as goal

pub returns-in-Err-clause-refused : goal.returns-in-Err-clause-refused
returns-in-Err-clause-refused c =
    let above : c.before-in-loop-i.result ≡ take c.loop-i.i c.args.locals.now = c.before-in-loop-i.ensures ∙ ap (take c.loop-i.i) c.requires.names in
    refused_first c.in-Err.refusal _ _ _ (rw above at c.in-Err.ensures.refused)
    (sym c.loop-i.invariant ∙ locals_step c.args.allow_reserved c.args.scope.now c.args.body.now c.args.locals.now c.loop-i.i c.index-locals-i.result c.loop-i-test.true c.index-locals-i.is)

pub loop-i-preserved : goal.loop-i-preserved
loop-i-preserved c =
    let above : c.before-in-loop-i.result ≡ take c.loop-i.i c.args.locals.now = c.before-in-loop-i.ensures ∙ ap (take c.loop-i.i) c.requires.names in
    goes_past _ _ _ _
    (locals_step c.args.allow_reserved c.args.scope.now c.args.body.now c.args.locals.now c.loop-i.i c.index-locals-i.result c.loop-i-test.true c.index-locals-i.is)
    (sym (ap (λ z. local_breaks c.args.allow_reserved c.args.scope.now c.args.body.now z c.index-locals-i.result) (sym above) ∙ c.in-Ok.ensures.fine)) c.loop-i.invariant

pub check_local-requires-clause-first : goal.check_local-requires-clause-first
check_local-requires-clause-first c = (c.loop-i.i, c.before-in-loop-i.ensures ∙ ap (take c.loop-i.i) (c.requires.names ∙ sym c.requires.free))

pub check_local-requires-clause-callers : goal.check_local-requires-clause-callers
check_local-requires-clause-callers c =
    callers_here c.args.locals.now c.args.body.now c.args.callers.now c.loop-i.i c.index-locals-i.result _ c.index-callers-i.result c.requires.callers c.loop-i-test.true c.index-locals-i.is
    (c.as_slice-sizes.ensures ∙ c.index-callers-i.is)
