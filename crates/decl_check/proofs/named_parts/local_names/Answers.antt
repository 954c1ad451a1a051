use Rattle.std.proofs.Common.{sym, ◌∙◌}
use Rattle.decl_check.proofs.RefusalLaws.{refused_first}
use Rattle.decl_check.proofs.ActionLaws.{name_step}
use Rattle.decl_check.proofs.named_parts.local_names.Goals as goal

pub returns-in-Err-clause-refused : goal.returns-in-Err-clause-refused
returns-in-Err-clause-refused c =
    refused_first c.in-Err.refusal _ _ _ c.in-Err.ensures.refused
    (sym c.loop-local.invariant.1 ∙ name_step c.args.allow_reserved c.loop-local.names c.args.locals.now c.loop-local.local-index c.local-item.result c.local_name.result.now c.loop-local-test.true c.local-item.is c.local_name.ensures)
