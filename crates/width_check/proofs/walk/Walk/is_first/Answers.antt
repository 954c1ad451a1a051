use Rattle.std.proofs.Common.{ap, ◌∙◌}
use Rattle.elastic_ast.specs.Seen.{seen_decl}
use Rattle.elastic_ast.specs.Typing.Asked.{is_first}
use Rattle.expr_types.specs.Scoped.{before_of}
use Rattle.width_check.proofs.KindLaws.{first_by_kinds}
use Rattle.width_check.proofs.walk.Walk.is_first.Goals as goal

pub returns : goal.returns
returns c =
    c.lacks.ensures ∙ first_by_kinds c.self.inside.kinds (before_of (c.self.inside.decls.now, c.self.inside.count)) (seen_decl c.args.decl.now) c.self.invariant.once
    ∙ ap (λ place. is_first (before_of place) (seen_decl c.args.decl.now)) c.self.view_is
