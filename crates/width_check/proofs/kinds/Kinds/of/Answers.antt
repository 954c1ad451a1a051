use Rattle.elastic_ast.specs.Seen.{seen_decl}
use Rattle.width_check.proofs.KindLaws.{kinds_step}
use Rattle.expr_types.proofs.ScopeLaws.{step_take}
use Rattle.width_check.proofs.kinds.Kinds.of.Goals as goal

pub loop-decl-preserved : goal.loop-decl-preserved
loop-decl-preserved c =
    kinds_step c.loop-decl.kinds _ _ (seen_decl c.decl-item.result) _ c.with-kinds.ensures (step_take c.args.decls.now c.loop-decl.decl-index c.decl-item.result c.loop-decl-test.true c.decl-item.is)
    c.loop-decl.invariant
