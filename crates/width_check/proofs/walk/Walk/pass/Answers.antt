use Rattle.std.proofs.Common.{ap, ◌∙◌}
use Rattle.std.specs.Prelude.{slice_get}
use Rattle.elastic_ast.specs.Seen.{seen_decl}
use Rattle.elastic_ast.specs.Typing.AskedOfNames.{top_name, top_names}
use Rattle.program_names.specs.Distinct.{are_new}
use Rattle.expr_types.specs.Scoped.{before_of}
use Rattle.width_check.proofs.WalkLaws.{next_passed}
use Rattle.width_check.proofs.walk.Walk.pass.Goals as goal

pub invariant_of-self-2 : goal.invariant_of-self-2
invariant_of-self-2 c =
    next_passed (c.self.inside.decls.now, c.self.inside.count) c.args.decl.now c.self.inside.kinds c.with-self-inside.result c.self.inside.names c.push.new.self
    (ap (λ z. slice_get z.0 z.1) c.self.view_is ∙ c.requires.here)
    (ap (λ z. are_new (top_names (before_of z)) (top_name (seen_decl c.args.decl.now))) c.self.view_is ∙ c.requires.fresh)
    c.in_ok-push.ensures.next c.with-self-inside.ensures c.self.invariant
